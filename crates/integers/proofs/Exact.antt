-- Reading and writing single INTEGERs are inverse to each other over the signed 64-bit range: what is written for a
-- number reads as that number,
-- what reads as a number is what is written for it, and everything else is refused. So a number has one encoding that is taken.
-- Assumes nothing.
use Rattle.std.specs.Prelude.{◌≡◌, refl, true, ℕ, ◌-◌, ◌<◌, ◌≤◌, List, [], ◌∷◌, Option, Some, None, ltb, eqb, ℤ, pos, length, get_or, drop}
use Rattle.std.proofs.Common.{ap, ap₂, sym, subst, ◌∙◌, arith, ltb-true, ltb-false, eqb-true, SFits}
use Rattle.std.proofs.lemmas.Bool.{eqb-false}
use Rattle.std.specs.Int.{w64}
use Rattle.format.specs.Answers.{Outcome, Valued, done, refused, result, refusal}
use Rattle.format.specs.Bytes.{Bytes}
use Rattle.format.specs.Bytes.Laws.{bytes_drop, bytes_take}
use Rattle.format.specs.Choice.Laws.{by_test}
use Rattle.format.specs.BigEndian.{be}
use Rattle.format.specs.BigEndian.Laws.{length_be}
use Rattle.der.specs.Length.{Sized}
use Rattle.der.specs.Element.{lies, element_in}
use Rattle.der.specs.declared.Body.{Body}
use Rattle.der.specs.Content.{shortest, strict, integer}
use Rattle.integers.specs.Integer.{word, value_of, integer_of}
use Rattle.integers.specs.Integer.Laws.{shortest_size, shortest_is_strict, strict_some}
use Rattle.integers.specs.Integer.Values.{value_shortest, value_be, value_fits, strict_back}
use Rattle.integers.specs.OneElement.{part, element_reads, element_part, element_is}
use Rattle.integers.specs.Calls.{content, reading, writing}
use Rattle.integers.specs.Calls.Laws.{content_loose, content_long, content_is, reading_none, reading_more, reading_all, writing_not}
use Rattle.integers.specs.Calls.Laws.{writing_done, integer_short}

-- an INTEGER reads as its content
integer_reads : (c : List ℕ) → Sized (length c) → reading (integer c) ≡ content c
integer_reads c h = reading_all (integer c) _ _ (element_reads 0x02 c h) refl ∙ ap content (element_part 0x02 c)

-- what is written for a number reads as that number
pub written_reads : (v : ℤ) → SFits w64 v → reading (integer_of v) ≡ result v
written_reads v f =
    let s = be 8 (word v) in
    let c = shortest s in
    let eight = length_be 8 (word v) in
    let few : length c ≤ 8 = omega (arith, shortest_size s) in
    integer_reads c (omega arith)
    ∙ content_is c (shortest_is_strict s (omega arith)) few
    ∙ ap result (value_shortest s ∙ value_be v f)

-- what is read is refused, or is an INTEGER of strict content of eight bytes at most
module _ {C : Type 0} (s : List ℕ) (bytes : Bytes s) (not_one : reading s ≡ refusal (pos 0) 65 → C)
    (one : (c : List ℕ) → Bytes c → s ≡ integer c → strict c ≡ true → length c ≤ 8 → reading s ≡ result (value_of c) → C) where
  by_content : (c : List ℕ) → Bytes c → s ≡ integer c → reading s ≡ content c → C
  by_content c b is e =
      by_test (strict c)
      (λ t. by_test (ltb 8 (length c))
      (λ l. not_one (e ∙ content_long c t (ltb-true 8 (length c) l)))
      (λ l. let few = ltb-false 8 (length c) l in one c b is t few (e ∙ content_is c t few)))
      (λ t. not_one (e ∙ content_loose c t))

  by_element : (r : Option Body) → element_in 0x02 s ≡ r → C
  by_element None e = not_one (reading_none s e)
  by_element (Some b) e =
      let start = b.start in
      let end = b.end in
      by_test (eqb end (length s))
      (λ t.
      let all = eqb-true end (length s) t in
      let f : element_in 0x02 s ≡ lies start (length s) = e ∙ ap (lies start) all in
      by_content (part s start (length s)) (bytes_take (length s - start) (drop start s) (bytes_drop start s bytes))
      (element_is 0x02 s bytes start f) (reading_all s start (length s) f refl))
      (λ t. not_one (reading_more s start end e (eqb-false end (length s) t)))

  pub read_cases : C
  read_cases = by_element (element_in 0x02 s) refl

not_both : {r : Valued ℤ} {v : ℤ} → r ≡ refusal (pos 0) 65 → r ≡ result v → ⊥
not_both {r} e f = omega (arith, ap (λ (g : Valued ℤ). g.number) e, ap (λ (g : Valued ℤ). g.number) f)

-- what reads as a number is what is written for it, and the number is of the range
pub read_written : (s : List ℕ) → Bytes s → (v : ℤ) → reading s ≡ result v → s ≡ integer_of v
read_written s bytes v e =
    read_cases s bytes (λ r. absurd (not_both r e))
    (λ c b is t few r.
    let same : value_of c ≡ v = ap (λ (g : Valued ℤ). g.value) (sym r ∙ e) in
    is ∙ ap integer (sym (strict_back c b few t)) ∙ ap integer_of same)

pub read_fits : (s : List ℕ) → Bytes s → (v : ℤ) → reading s ≡ result v → SFits w64 v
read_fits s bytes v e =
    read_cases s bytes (λ r. absurd (not_both r e))
    (λ c b is t few r. subst (SFits w64) (ap (λ (g : Valued ℤ). g.value) (sym r ∙ e)) (value_fits c b few))

-- everything else is refused
pub else_refused : (s : List ℕ) → Bytes s → ((v : ℤ) → SFits w64 v → s ≡ integer_of v → ⊥) → reading s ≡ refusal (pos 0) 65
else_refused s bytes none =
    read_cases s bytes (λ r. r)
    (λ c b is t few r. absurd (none (value_of c) (value_fits c b few) (is ∙ ap integer (sym (strict_back c b few t)))))

-- and what is taken is 02, the size in one byte, and 1 to 8 bytes: a length in more bytes is not the shortest of so few
pub small_reads :
    (s : List ℕ) →
    2 ≤ length s →
    length s ≤ 10 →
    get_or s 0 0 ≡ 0x02 →
    get_or s 1 0 ≡ length s - 2 →
    reading s ≡ content (drop 2 s)
small_reads [] h l e f = absurd (omega arith)
small_reads (x ∷ []) h l e f = absurd (omega arith)
small_reads (x ∷ y ∷ c) h l e f =
    let size : y ≡ length c = omega arith in
    ap₂ (λ a b. reading (a ∷ b ∷ c)) e size ∙ ap reading (sym (integer_short c (omega arith))) ∙ integer_reads c (omega arith)

pub not_small :
    (s : List ℕ) →
    Bytes s →
    ((c : List ℕ) → 0 < length c → length c ≤ 8 → s ≡ 0x02 ∷ length c ∷ c → ⊥) →
    reading s ≡ refusal (pos 0) 65
not_small s bytes none =
    read_cases s bytes (λ r. r)
    (λ c b is t few r. absurd (none c (strict_some c t) few (is ∙ integer_short c (omega arith))))

-- the calls: what was written reads as the number, and what was read is written again wherever there is room
pub writing_reads : (v : ℤ) → SFits w64 v → (room : ℕ) (s : List ℕ) → writing v room ≡ done s → reading s ≡ result v
writing_reads v f room s e =
    by_test (ltb room (length (integer_of v)))
    (λ t. absurd (omega (arith, ap (λ (o : Outcome). o.number) (sym (writing_not v room (ltb-true room (length (integer_of v)) t)) ∙ e))))
    (λ t.
    ap reading (sym (ap (λ (o : Outcome). o.written) (sym (writing_done v room (ltb-false room (length (integer_of v)) t)) ∙ e)))
    ∙ written_reads v f)

module _ (s : List ℕ) (bytes : Bytes s) (v : ℤ) (e : reading s ≡ result v) (room : ℕ) where
  pub reading_writes : length s ≤ room → writing v room ≡ done s
  reading_writes h =
      let is = read_written s bytes v e in
      writing_done v room (subst (λ t. length t ≤ room) is h) ∙ ap done (sym is)

  pub reading_no_room : room < length s → writing v room ≡ refused 63 0
  reading_no_room h = writing_not v room (subst (λ t. room < length t) (read_written s bytes v e) h)
