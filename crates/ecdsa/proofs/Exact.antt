-- Raw and DER there and back, once over n: what one call writes the other takes, and gives back what was given.
-- Assumes nothing.
use Rattle.std.specs.Prelude.{◌≡◌, refl, true, ℕ, ◌*◌, ◌<◌, ◌≤◌, List, ltb, length}
use Rattle.std.proofs.Common.{ap, sym, subst, ◌∙◌, arith, ltb-true, ltb-false, leb-true, eqb-true}
use Rattle.format.specs.Bytes.{Bytes}
use Rattle.format.specs.Choice.Laws.{by_test}
use Rattle.format.specs.Answers.{done, refused}
use Rattle.format.specs.Order.Laws.{done_passed, in_room_lem}
use Rattle.ecdsa.specs.Signature.{is_size, der_of}
use Rattle.ecdsa.specs.Strict.{Raw, raw, none, raw_of}
use Rattle.ecdsa.specs.Strict.ToRaw.{to_raw_no_size, to_raw_not_strict, to_raw_no_room, to_raw_done}
use Rattle.ecdsa.proofs.Strict.Exact.{raw_found, raw_sound}
use Rattle.ecdsa.specs.Calls.{to_der_tests, to_der, to_raw}
use Rattle.ecdsa.specs.Calls.Laws.{to_der_formed}

-- `to_der` answers 0 exactly when n is a size, the length is 2n and there is room; it then writes the DER form
pub to_der_writes :
    (n : ℕ) (bytes : List ℕ) (room : ℕ) →
    is_size n ≡ true →
    length bytes ≡ 2 * n →
    length (der_of n bytes) ≤ room →
    to_der n bytes room ≡ done (der_of n bytes)
to_der_writes n bytes room size h fits = to_der_formed n bytes room size h ∙ in_room_lem 63 (der_of n bytes) room fits

pub to_der_only :
    (n : ℕ) (bytes : List ℕ) (room : ℕ) (s : List ℕ) →
    to_der n bytes room ≡ done s →
    (is_size n ≡ true) × (length bytes ≡ 2 * n) × (der_of n bytes ≡ s) × (length s ≤ room)
unfolding to_der
to_der_only n bytes room s e =
    let p = done_passed (to_der_tests n bytes room) (done (der_of n bytes)) s (omega arith, (omega arith, (omega arith, tt))) e in
    let same : der_of n bytes ≡ s = ap (λ o. o.written) p.1 in (
      p.0.0,
      eqb-true (length bytes) (2 * n) p.0.1.0,
      same,
      subst (λ t. length t ≤ room) same (leb-true (length (der_of n bytes)) room p.0.1.1.0),
    )

-- `to_raw` of what `to_der` wrote is the raw given
pub der_back_lem :
    (n : ℕ) (bytes : List ℕ) (room room' : ℕ) (s : List ℕ) →
    Bytes bytes →
    to_der n bytes room ≡ done s →
    2 * n ≤ room' →
    to_raw n s room' ≡ done bytes
der_back_lem n bytes room room' s all e fits =
    let d = to_der_only n bytes room s e in
    to_raw_done n s room' d.0 bytes (ap (raw_of n) (sym d.2) ∙ raw_found n bytes d.0 d.1 all) fits

-- `to_raw` answers 0 exactly for the strict DER forms of pairs in n bytes each; and `to_der` of what it wrote is the DER given
pub to_raw_writes :
    (n : ℕ) (bytes : List ℕ) (room : ℕ) →
    is_size n ≡ true →
    length bytes ≡ 2 * n →
    Bytes bytes →
    2 * n ≤ room →
    to_raw n (der_of n bytes) room ≡ done bytes
to_raw_writes n bytes room size h all fits = to_raw_done n (der_of n bytes) room size bytes (raw_found n bytes size h all) fits

pub to_raw_only :
    (n : ℕ) (s : List ℕ) (room : ℕ) (bytes : List ℕ) →
    Bytes s →
    to_raw n s room ≡ done bytes →
    (is_size n ≡ true) × (length bytes ≡ 2 * n) × (der_of n bytes ≡ s)
to_raw_only n s room bytes all e =
    by_test (is_size n) (λ size. read size (raw_of n s) refl) (λ size. absurd (never 60 (omega arith) (to_raw_no_size n s room size)))
  where
    never : (number : ℕ) → 0 < number → to_raw n s room ≡ refused number 0 → ⊥
    never number h f = omega (arith, ap (λ o. o.number) (sym f ∙ e))

    read : is_size n ≡ true → (r : Raw) → raw_of n s ≡ r → (is_size n ≡ true) × (length bytes ≡ 2 * n) × (der_of n bytes ≡ s)
    read size none f = absurd (never 62 (omega arith) (to_raw_not_strict n s room size f))
    read size (raw given) f =
        by_test (ltb room (2 * n))
        (λ l. absurd (never 63 (omega arith) (to_raw_no_room n s room size given f (ltb-true room (2 * n) l))))
        (λ l.
        let same : given ≡ bytes = ap (λ o. o.written) (sym (to_raw_done n s room size given f (ltb-false room (2 * n) l)) ∙ e) in
        let sound = raw_sound n s all bytes (f ∙ ap raw same) in
        (size, sound.many, sound.whole))

pub raw_back_lem :
    (n : ℕ) (s : List ℕ) (room room' : ℕ) (bytes : List ℕ) →
    Bytes s →
    to_raw n s room ≡ done bytes →
    length s ≤ room' →
    to_der n bytes room' ≡ done s
raw_back_lem n s room room' bytes all e fits =
    let r = to_raw_only n s room bytes all e in
    to_der_writes n bytes room' r.0 r.1 (subst (λ t. length t ≤ room') (sym r.2) fits) ∙ ap done r.2
