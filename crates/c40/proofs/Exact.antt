-- The codec, exactly: what is written is the published form, what is read is the text whose published form it is, and
-- text of k characters can be
-- cut off the front of a byte string in one way only.
-- Assumes nothing.
use Rattle.std.specs.Prelude.{◌≡◌, refl, false, ℕ, suc, ◌+◌, ◌%◌, ◌<◌, ◌≤◌, List, [], ◌∷◌, ◌++◌, ltb, eqb, length, Result, Err}
use Rattle.std.proofs.Common.{ap, sym, subst, ◌∙◌, arith, ltb-true, ltb-false, eqb-true, append-nil}
use Rattle.std.proofs.lemmas.Bool.{eqb-false}
use Rattle.format.specs.Bytes.{Byte, Bytes}
use Rattle.format.specs.Bytes.Laws.{all_append}
use Rattle.format.specs.Choice.Laws.{by_test}
use Rattle.format.specs.Cut.{Cut}
use Rattle.format.proofs.Cut.Laws.{cut_sized}
use Rattle.format.specs.Answers.{done, refused}
use Rattle.pairs.specs.Chart.{the_chart, value_of, InChart}
use Rattle.c40.specs.Text.{Text, TextOf, publish, width}
use Rattle.c40.specs.Text.Laws.{length_publish, publish_three, publish_two, publish_one, publish_none, publish_pair}
use Rattle.pairs.specs.Pairs.{pair_of, chars_of, triple}
use Rattle.pairs.proofs.Pairs.Laws.{chars_some, by_pair, triple_is}
use Rattle.pairs.proofs.Pairs.Exact.{pair_three, pair_two, pair_one, pair_sound}
use Rattle.c40.specs.Decode.{Decoded, text, wrong, ahead, follow, none, decode}
use Rattle.c40.proofs.Decode.Laws.{follow_good, ahead_text, wrong_text}
use Rattle.pairs.specs.declared.decode.Fault.{Fault}
use Rattle.pairs.specs.declared.decode.Fault.TheVariants.{OutOfRange}
use Rattle.pairs.specs.declared.decode.Pair.{Pair}
use Rattle.c40.specs.Calls.{fault_number, known, reading, writing}
use Rattle.c40.proofs.Calls.Laws.{known_text, text_known, fault_some, reading_long, reading_odd, reading_wrong, reading_no_room}
use Rattle.c40.proofs.Calls.Laws.{reading_done}
use Rattle.c40.proofs.Calls.Laws.{writing_long, writing_stranger, writing_no_room, writing_done}

-- the published form of text decodes as that text
pub published_decodes : (t : List ℕ) → Text t → (at : ℕ) → decode at (publish t) ≡ text t
unfolding decode
published_decodes [] h at = ap (decode at) publish_none
published_decodes (a ∷ []) h at =
    ap (decode at) (publish_one a) ∙ ap (λ p. follow at p (text [])) (pair_one a h.0)
published_decodes (a ∷ b ∷ []) h at =
    ap (decode at) (publish_two a b ∙ triple_is (value_of a) (value_of b) 0) ∙ ap (λ p. follow at p (text [])) (pair_two a b h.0 h.1.0)
published_decodes (a ∷ b ∷ c ∷ t) h at =
    let ih = published_decodes t h.1.1.1 (at + 2) in
    ap (decode at) (publish_three a b c t ∙ ap (λ p. p ++ publish t) (triple_is (value_of a) (value_of b) (value_of c)))
    ∙ ap (λ p. follow at p (decode (at + 2) (publish t))) (pair_three a b c (none (publish t)) h.0 h.1.0 h.1.1.0)
    ∙ ap (ahead (a ∷ b ∷ c ∷ [])) ih

-- three characters in front are a triple in front
pub three_ahead : (p u : List ℕ) → length p ≡ 3 → publish (p ++ u) ≡ publish p ++ publish u
three_ahead [] u e = absurd (omega arith)
three_ahead (a ∷ []) u e = absurd (omega arith)
three_ahead (a ∷ b ∷ []) u e = absurd (omega arith)
three_ahead (a ∷ b ∷ c ∷ []) u e =
    publish_three a b c u
    ∙ ap (λ q. q ++ publish u)
    (sym (append-nil (triple (value_of a) (value_of b) (value_of c)))
    ∙ ap (λ q. triple (value_of a) (value_of b) (value_of c) ++ q) (sym publish_none)
    ∙ sym (publish_three a b c []))
three_ahead (a ∷ b ∷ c ∷ d ∷ p) u e = absurd (omega arith)

-- nothing is published of nothing alone
none_published : (u : List ℕ) → publish u ≡ [] → u ≡ []
none_published [] e = refl
none_published (a ∷ u) e = absurd (omega (arith, ap length e, length_publish (a ∷ u)))

-- what a pair carries, ahead of what the rest carries
joined : (s p u : List ℕ) → (none s ≡ false → length p ≡ 3) → publish u ≡ s → publish (p ++ u) ≡ publish p ++ s
joined [] p u whole e =
    ap (λ v. publish (p ++ v)) (none_published u e) ∙ ap publish (append-nil p) ∙ sym (append-nil (publish p))
joined (z ∷ s) p u whole e = three_ahead p u (whole refl) ∙ ap (λ q. publish p ++ q) e

-- one pair, where the rest is settled
turn : (x y : ℕ) (s : List ℕ) → Byte x → Byte y → (at : ℕ) (t : List ℕ)
    → follow at (pair_of the_chart (none s) x y) (decode (at + 2) s) ≡ text t
    → ((u : List ℕ) → decode (at + 2) s ≡ text u → Text u × (publish u ≡ s))
    → Text t × (publish t ≡ x ∷ y ∷ s)
turn x y s hx hy at t e rest = by_pair pair some nothing
  where
    pair : Result Pair Fault
    pair = pair_of the_chart (none s) x y

    some : 0 < length (chars_of pair) → Text t × (publish t ≡ x ∷ y ∷ s)
    some good =
        let p = chars_of pair in
        let u = ahead_text p (decode (at + 2) s) t (sym (follow_good at pair (decode (at + 2) s) good) ∙ e) in
        let r = rest u.0 u.1 in
        let c = pair_sound (none s) x y hx hy (chars_some pair good) in (
          subst (λ v. Text v) u.2 (all_append InChart p u.0 c.is_text_lem r.0),
          ap publish (sym u.2) ∙ joined s p u.0 c.whole r.1 ∙ ap (λ q. q ++ s) (publish_pair pair ∙ c.form),
        )

    nothing : (fault : Fault) → pair ≡ Err fault → Text t × (publish t ≡ x ∷ y ∷ s)
    nothing fault bad = absurd (wrong_text (ap (λ p. follow at p (decode (at + 2) s)) bad) e)

-- what decodes as text is the published form of that text
pub decodes_published : (s : List ℕ) → Bytes s → (at : ℕ) (t : List ℕ) → decode at s ≡ text t → Text t × (publish t ≡ s)
unfolding decode
decodes_published [] bytes at t e =
    let is : [] ≡ t = cc in
    (subst (λ v. Text v) is tt, ap publish (sym is) ∙ publish_none)
decodes_published (x ∷ []) bytes at t e = absurd (wrong_text {fault = OutOfRange} {at = at} refl e)
decodes_published (x ∷ y ∷ s) bytes at t e =
    let rest = decodes_published s (λ i. bytes (suc (suc i))) (at + 2) in
    turn x y s (bytes 0) (bytes 1) at t e rest

-- Two texts with one published form are one text; and text of k characters is cut off the front in one way only.
pub one_text : (a b : List ℕ) → Text a → Text b → publish a ≡ publish b → a ≡ b
one_text a b la lb e =
    let same : text a ≡ text b = sym (published_decodes a la 0) ∙ ap (decode 0) e ∙ published_decodes b lb 0 in
    cc

pub cut_text : (k : ℕ) → Cut (TextOf k) publish
cut_text k a b t u la lb e =
    let size : (v : List ℕ) → TextOf k v → length (publish v) ≡ width k = λ v l. length_publish v ∙ ap width l.0 in
    let c = cut_sized (width k) (publish a) (publish b) t u (size a la) (size b lb) e in
    (one_text a b la.1 lb.1 c.0, c.1)

-- `read` answers 0 exactly when the bytes are the published form of text, not too long, and there is room; and what it writes is that text.
pub reads_only_published :
    (s : List ℕ) (room : ℕ) (t : List ℕ) →
    Bytes s →
    reading s room ≡ done t →
    Text t × (publish t ≡ s) × (length s ≤ 4096) × (length t ≤ room)
reads_only_published s room t bytes e =
    by_test (ltb 4096 (length s))
    (λ long. absurd (never 45 0 (omega arith) (reading_long s room (ltb-true 4096 (length s) long))))
    (λ size. by_test (eqb (length s % 2) 1)
    (λ odd. absurd (never 40 (length s) (omega arith)
    (reading_odd s room (ltb-false 4096 (length s) size) (eqb-true (length s % 2) 1 odd))))
    (λ even. pairs (ltb-false 4096 (length s) size) (eqb-false (length s % 2) 1 even) (decode 0 s) refl))
  where
    never : (number place : ℕ) → 0 < number → reading s room ≡ refused number place → ⊥
    never number place h f = omega (arith, ap (λ o. o.number) (sym f ∙ e))

    pairs :
        length s ≤ 4096 →
        (length s % 2 ≡ 1 → ⊥) →
        (d : Decoded) →
        decode 0 s ≡ d →
        Text t × (publish t ≡ s) × (length s ≤ 4096) × (length t ≤ room)
    pairs size even (wrong fault at) f =
        absurd (never (fault_number fault) at (fault_some fault) (reading_wrong s room size even fault at f))
    pairs size even (text u) f =
        by_test (ltb room (length u))
        (λ short. absurd (never 42 0 (omega arith) (reading_no_room s room size even u f (ltb-true room (length u) short))))
        (λ fits.
        let is : u ≡ t = ap (λ o. o.written) (sym (reading_done s room size even u f (ltb-false room (length u) fits)) ∙ e) in
        let p = decodes_published s bytes 0 t (f ∙ ap text is) in
        (p.0, p.1, size, subst (λ v. length v ≤ room) is (ltb-false room (length u) fits)))

pub reads_published : (t : List ℕ) (room : ℕ) → Text t → length (publish t) ≤ 4096 → length t ≤ room → reading (publish t) room ≡ done t
reads_published t room h size fits =
    reading_done (publish t) room size (λ odd. omega (arith, length_publish t)) t (published_decodes t h 0) fits

-- `write` answers 0 exactly when the characters are text, not too many, and there is room; and what it writes is the published form.
pub writes_only_text :
    (t : List ℕ) (room : ℕ) (s : List ℕ) →
    writing t room ≡ done s →
    Text t × (publish t ≡ s) × (length t ≤ 6144) × (width (length t) ≤ room)
writes_only_text t room s e =
    by_test (ltb 6144 (length t))
    (λ long. absurd (never 45 0 (omega arith) (writing_long t room (ltb-true 6144 (length t) long))))
    (λ size. by_test (ltb (known t) (length t))
    (λ odd.
    absurd
    (never 43 (known t) (omega arith) (writing_stranger t room (ltb-false 6144 (length t) size) (ltb-true (known t) (length t) odd))))
    (λ good. chars (ltb-false 6144 (length t) size) (ltb-false (known t) (length t) good)))
  where
    never : (number place : ℕ) → 0 < number → writing t room ≡ refused number place → ⊥
    never number place h f = omega (arith, ap (λ o. o.number) (sym f ∙ e))

    chars : length t ≤ 6144 → length t ≤ known t → Text t × (publish t ≡ s) × (length t ≤ 6144) × (width (length t) ≤ room)
    chars size good =
        by_test (ltb room (width (length t)))
        (λ short. absurd (never 44 0 (omega arith) (writing_no_room t room size good (ltb-true room (width (length t)) short))))
        (λ fits.
        let is = ap (λ o. o.written) (sym (writing_done t room size good (ltb-false room (width (length t)) fits)) ∙ e) in
        (known_text t good, is, size, ltb-false room (width (length t)) fits))

pub writes_text : (t : List ℕ) (room : ℕ) → Text t → length t ≤ 6144 → width (length t) ≤ room → writing t room ≡ done (publish t)
writes_text t room h size fits = writing_done t room size (omega (arith, text_known t h)) fits

-- There and back: what `write` writes reads as the text given; what `read` reads writes, given room, as the bytes given.
pub written_reads : (t : List ℕ) (room room' : ℕ) (s : List ℕ) → writing t room ≡ done s → length t ≤ room' → reading s room' ≡ done t
written_reads t room room' s e fits =
    let w = writes_only_text t room s e in
    subst (λ v. reading v room' ≡ done t) w.1 (reads_published t room' w.0 (omega (arith, length_publish t)) fits)

pub read_writes :
    (s : List ℕ) (room room' : ℕ) (t : List ℕ) →
    Bytes s →
    reading s room ≡ done t →
    length s ≤ room' →
    writing t room' ≡ done s
read_writes s room room' t bytes e fits =
    let r = reads_only_published s room t bytes e in
    let many : width (length t) ≡ length s = sym (length_publish t) ∙ ap length r.1 in
    writes_text t room' r.0 (omega arith) (omega arith) ∙ ap done r.1
