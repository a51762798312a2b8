-- Reading strict DER is exact, for one number and for both: complete, what is published is read; and sound, what is read is published.
-- Assumes nothing.
use Rattle.std.specs.Prelude.{◌≡◌, refl, true, ℕ, suc, ◌+◌, ◌-◌, ◌*◌, ◌<◌, ◌≤◌, List, [], ◌∷◌, ◌++◌, Option, Some, None, eqb, length, take, drop, replicate}
use Rattle.std.proofs.Common.{ap, ap₂, sym, subst, ◌∙◌, arith, eqb-true, append-nil, length-append, length-drop, take-append-drop, take_all, take_at, drop_at, take-add, drop-drop, length-take-le}
use Rattle.std.proofs.lemmas.Bool.{eqb-false}
use Rattle.format.specs.Places.{to_end}
use Rattle.format.specs.Bytes.{Bytes}
use Rattle.format.specs.Bytes.Laws.{bytes_append, bytes_drop, bytes_take, bytes_replicate}
use Rattle.format.specs.Choice.Laws.{by_test}
use Rattle.der.specs.Length.{form}
use Rattle.der.specs.Element.{element, lies, element_in}
use Rattle.der.proofs.Elements.Exact.{start, element_found, element_body, element_whole}
use Rattle.der.specs.Content.{shortest}
use Rattle.der.specs.declared.Body.{Body}
use Rattle.ecdsa.specs.Signature.{is_size, unsigned, pair_of, der_of}
use Rattle.ecdsa.specs.Strict.{part, lead, stand, digits_in, number_in, padded, Raw, raw_of}
use Rattle.ecdsa.specs.Signature.Laws.{size_bounds}
use Rattle.ecdsa.specs.FormSize.{never_64}
use Rattle.ecdsa.proofs.Strict.Laws.{length_part, length_padded, digits_is, number_at_lem, lead_small, lead_at_most, number_read}
use Rattle.ecdsa.proofs.Strict.Laws.{number_inside, raw_none, raw_more, raw_no_r, raw_no_s, raw_left, raw_is}
use Rattle.ecdsa.proofs.Strict.Shortest.{Carries, shortest_carries, padded_shortest}
use Rattle.ecdsa.specs.declared.Digits.{Digits}

-- the places of content that starts somewhere in t
drop_part : (k m : ℕ) (l : List ℕ) → k ≤ m → m ≤ length l → take (m - k) (drop k l) ≡ drop k (take m l)
drop_part k m l h room =
    let sum : m ≡ k + (m - k) = omega arith in
    sym
    (ap (λ j. drop k (take j l)) sum
    ∙ ap (drop k) (take-add k (m - k) l)
    ∙ drop_at (take k l) (take (m - k) (drop k l)) k (length-take-le k l (omega arith)))

-- the digits, by where the content starts
digits_part : (from to k : ℕ) (t : List ℕ) → to ≤ length t → k ≤ to - from → part (from + k) to t ≡ drop k (part from to t)
digits_part from to k t end h =
    let size : to - (from + k) ≡ to - from - k = omega arith in
    ap₂ (λ m l. take m l) size (sym (drop-drop k from t))
    ∙ drop_part k (to - from) (drop from t) h (omega (arith, length-drop from t))

-- complete, one number: its INTEGER, followed by anything, is read, and its digits in n bytes are the number
pub record NumberFound (n : ℕ) (r rest : List ℕ) : Type 0 where
  pub a : ℕ
  pub b : ℕ
  pub is : number_in n (unsigned r ++ rest) ≡ stand a b
  pub back : padded n (part a b (unsigned r ++ rest)) ≡ r
  pub end : b ≡ length (unsigned r)

carried : (r : List ℕ) → 0 < length r → Carries r (shortest (0 ∷ r))
carried [] h = absurd (omega arith)
carried (y ∷ r) h = shortest_carries y r

-- the content is at most one byte longer than the number
content_size : (r c : List ℕ) → Carries r c → (lead c ≤ length c) × (length c - lead c ≤ length r) × (length c ≤ suc (length r))
content_size r c h =
    let inside = lead_at_most c (length c) h.is_strict refl in
    let digits = length-drop (lead c) c in
    (inside, omega (arith, h.fits), one_more (length c) (lead c) (length r) (omega (arith, h.fits)) (lead_small c))
  where
    one_more : (m k n : ℕ) → m - k ≤ n → k ≤ 1 → m ≤ suc n
    one_more m k n h l = omega arith

content_found :
    (n : ℕ) (r c rest : List ℕ) →
    length r ≡ n →
    n < 127 →
    Carries r c →
    (let t = element 0x02 c ++ rest in
    let a = start c + lead c in
    let b = start c + length c in (number_in n t ≡ stand a b) × (padded n (part a b t) ≡ r) × (b ≡ length (element 0x02 c)))
content_found n r c rest many small h =
    let t = element 0x02 c ++ rest in
    let m = length c in
    let size = content_size r c h in
    let from = start c in
    let to = from + m in
    let body : drop from t ≡ c ++ rest = element_body 0x02 c rest in
    let wide : to - from ≡ m = omega arith in
    let content : part from to t ≡ c = ap₂ (λ j l. take j l) wide body ∙ take_at c rest m refl in
    let whole : length (element 0x02 c) ≡ to = ap suc (length-append (form m) c) ∙ omega arith in
    let end : to ≤ length t = omega (arith, length-append (element 0x02 c) rest) in
    let digits : part (from + lead c) to t ≡ drop (lead c) c =
    digits_part from to (lead c) t end (omega (arith, size.0)) ∙ ap (drop (lead c)) content in (
      sym (number_at_lem n t from to (element_found 0x02 c rest (omega (arith, size.2))))
          ∙ ap (λ d. digits_in n from to d) content
          ∙ sym (digits_is n from to c h.is_strict h.low (lead c) refl (omega (arith, size.1))),
      ap₂ padded (sym many) digits ∙ h.back,
      sym whole,
    )

pub number_found : (n : ℕ) (r rest : List ℕ) → length r ≡ n → 0 < n → n < 127 → Bytes r → NumberFound n r rest
number_found n r rest many some small bytes =
    let c = shortest (0 ∷ r) in
    let h = content_found n r c rest many small (carried r (omega arith)) in
    record { a = start c + lead c; b = start c + length c; is = h.0; back = h.1; end = h.2 }

-- sound, one number: what is read is the INTEGER of the number, of n bytes
pub record NumberSound (n : ℕ) (t : List ℕ) (b : ℕ) (r : List ℕ) : Type 0 where
  pub many : length r ≡ n
  pub whole : take b t ≡ unsigned r
  pub end : b ≤ length t
  pub bytes : Bytes r

pub number_sound : (n : ℕ) (t : List ℕ) → Bytes t → (a b : ℕ) → number_in n t ≡ stand a b → NumberSound n t b (padded n (part a b t))
number_sound n t bytes a b e =
    let r = number_read n t a b e in
    let i = number_inside n t bytes a b e in
    let from = r.from in
    let c = part from b t in
    let f = element_whole 0x02 t bytes from b r.is in
    let size = length_part from b t f.inside in
    let digits : part a b t ≡ drop (lead c) c =
    ap (λ k. part k b t) r.start ∙ digits_part from b (lead c) t f.inside (lead_at_most c (b - from) r.is_strict size) in
    record {
      many = length_padded n (part a b t) (omega (arith, length_part a b t i.end, i.small));
      whole = f.whole ∙ ap (element 0x02) (sym (ap (λ d. shortest (0 ∷ padded n d)) digits ∙ padded_shortest n c r.is_strict r.low));
      end = f.inside;
      bytes =
          bytes_append (replicate (n - length (part a b t)) 0) (part a b t) (bytes_replicate (n - length (part a b t)) 0 (omega arith))
          (bytes_take (b - a) (drop a t) (bytes_drop a t bytes));
    }

-- complete, both numbers: the DER form of a raw signature is read as that signature
pub raw_found : (n : ℕ) (bytes : List ℕ) → is_size n ≡ true → length bytes ≡ 2 * n → Bytes bytes → raw_of n (der_of n bytes) ≡ Raw.raw bytes
raw_found n bytes size many all =
    let bounds = size_bounds n size in
    let some : 0 < n = omega arith in
    let below : n < 127 = omega arith in
    let r = take n bytes in
    let s = drop n bytes in
    let r_many : length r ≡ n = length-take-le n bytes (omega arith) in
    let s_many : length s ≡ n = length-drop n bytes ∙ omega arith in
    let t = pair_of n bytes in
    let u = unsigned s in
    let t_many : length t ≡ length (unsigned r) + length u = length-append (unsigned r) u in
    let short = never_64 n r s size r_many s_many in
    let one = number_found n r u r_many some below (bytes_take n bytes all) in
    let two = number_found n s [] s_many some below (bytes_drop n bytes all) in
    let last : u ++ [] ≡ u = append-nil u in
    let whole = append-nil (element 0x30 t) in
    raw_is n (der_of n bytes) (start t) (start t + length t)
    (ap (element_in 0x30) (sym whole) ∙ element_found 0x30 t [] (omega (arith, short.1)))
    (sym (ap suc (length-append (form (length t)) t) ∙ omega arith))
    t
    (ap (drop (start t)) (sym whole) ∙ element_body 0x30 t [] ∙ append-nil t)
    one.a
    one.b
    one.is
    u
    (drop_at (unsigned r) u one.b (sym one.end))
    two.a
    two.b
    (ap (number_in n) (sym last) ∙ two.is)
    two.end
    ∙ ap Raw.raw
    (ap₂ (λ p q. p ++ q) one.back (ap (λ v. padded n (part two.a two.b v)) (sym last) ∙ two.back) ∙ take-append-drop n bytes)

-- sound, both numbers: what is read as a raw signature is its DER form
pub record RawSound (n : ℕ) (s bytes : List ℕ) : Type 0 where
  pub many : length bytes ≡ 2 * n
  pub whole : der_of n bytes ≡ s
  pub all : Bytes bytes

none_raw : {bytes : List ℕ} {r : Raw} → r ≡ Raw.none → r ≡ Raw.raw bytes → ⊥
none_raw e f = let z : ◌≡◌ {A = ℕ} 0 1 = cc in omega arith

-- where both are read and nothing is left over
both_sound :
    (n : ℕ) (s t u : List ℕ) (a b x y from : ℕ) →
    Bytes s →
    element_in 0x30 s ≡ lies from (length s) →
    drop from s ≡ t →
    number_in n t ≡ stand a b →
    drop b t ≡ u →
    number_in n u ≡ stand x y →
    y ≡ length u →
    RawSound n s (padded n (part a b t) ++ padded n (part x y u))
both_sound n s t u a b x y from bytes is at_t f at_u g left =
    let t_bytes : Bytes t = subst (λ v. Bytes v) at_t (bytes_drop from s bytes) in
    let u_bytes : Bytes u = subst (λ v. Bytes v) at_u (bytes_drop b t t_bytes) in
    let p = padded n (part a b t) in
    let q = padded n (part x y u) in
    let one = number_sound n t t_bytes a b f in
    let two = number_sound n u u_bytes x y g in
    let second : unsigned q ≡ u = sym two.whole ∙ take_all y u (omega arith) in
    let pair : unsigned p ++ unsigned q ≡ t = ap₂ (λ v w. v ++ w) (sym one.whole) (second ∙ sym at_u) ∙ take-append-drop b t in
    let whole = element_whole 0x30 s bytes from (length s) is in
    let body : take (length s - from) (drop from s) ≡ t = to_end s from ∙ at_t in
    record {
      many = length-append p q ∙ omega (arith, one.many, two.many);
      whole =
          ap₂ (λ v w. element 0x30 (unsigned v ++ unsigned w)) (take_at p q n one.many) (drop_at p q n one.many)
          ∙ ap (element 0x30) (pair ∙ sym body)
          ∙ sym whole.whole
          ∙ take_all (length s) s (omega arith);
      all = bytes_append p q one.bytes two.bytes;
    }

pub raw_sound : (n : ℕ) (s : List ℕ) → Bytes s → (bytes : List ℕ) → raw_of n s ≡ Raw.raw bytes → RawSound n s bytes
raw_sound n s bytes raw e = opened (element_in 0x30 s) refl
  where
    last :
        (from to : ℕ) →
        element_in 0x30 s ≡ lies from to →
        to ≡ length s →
        (a b : ℕ) →
        number_in n (drop from s) ≡ stand a b →
        (r : Option Digits) →
        number_in n (drop b (drop from s)) ≡ r →
        RawSound n s raw
    last from to is whole a b f (Some d) g =
        let x = d.start in
        let y = d.end in
        let t = drop from s in
        let u = drop b t in
        by_test (eqb y (length u))
        (λ h.
        let left = eqb-true y (length u) h in
        let same : Raw.raw (padded n (part a b t) ++ padded n (part x y u)) ≡ Raw.raw raw =
        sym (raw_is n s from to is whole t refl a b f u refl x y g left) ∙ e in
        let read : padded n (part a b t) ++ padded n (part x y u) ≡ raw = cc in
        subst (λ v. RawSound n s v) read (both_sound n s t u a b x y from bytes (is ∙ ap (lies from) whole) refl f refl g left))
        (λ h. absurd (none_raw (raw_left n s from to is whole t refl a b f u refl x y g (eqb-false y (length u) h)) e))
    last from to is whole a b f None g =
        absurd (none_raw (raw_no_s n s from to is whole (drop from s) refl a b f (drop b (drop from s)) refl g) e)

    pair :
        (from to : ℕ) →
        element_in 0x30 s ≡ lies from to →
        to ≡ length s →
        (r : Option Digits) →
        number_in n (drop from s) ≡ r →
        RawSound n s raw
    pair from to is whole (Some d) f =
        last from to is whole d.start d.end f (number_in n (drop d.end (drop from s))) refl
    pair from to is whole None f = absurd (none_raw (raw_no_r n s from to is whole (drop from s) refl f) e)

    opened : (r : Option Body) → element_in 0x30 s ≡ r → RawSound n s raw
    opened (Some b) is =
        let from = b.start in
        let to = b.end in
        by_test (eqb to (length s))
        (λ h. pair from to is (eqb-true to (length s) h) (number_in n (drop from s)) refl)
        (λ h. absurd (none_raw (raw_more n s from to is (eqb-false to (length s) h)) e))
    opened None is = absurd (none_raw (raw_none n s is) e)
