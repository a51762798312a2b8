-- Condition 1 for the other entry points: C40 text, dates, INTEGERs, signature forms, the choice of hash, the words of the numbers, the
-- names of the items and the words of the rules.
-- Assumes nothing.
use Rattle.std.specs.Prelude.{◌≡◌, refl, ◌⊎◌, Bool, true, false, ℕ, ◌-◌, ◌%◌, List, [], ◌∷◌, Option, Some, None, ltb, leb, eqb, ℤ, pos, length, take, drop}
use Rattle.std.proofs.Common.{ap, inl, inr, ⊎_elim}
use Rattle.format.specs.Choice.{pick}
use Rattle.format.specs.Answers.{Outcome, done, refused, filled, Valued, result, refusal}
use Rattle.format.specs.Order.{Test, test, in_order, in_room, numbers}
use Rattle.pairs.specs.declared.decode.Fault.TheVariants as fault
use Rattle.c40.specs.Decode.{Decoded, text, wrong, decode, text_of, is_text, wrong_at}
use Rattle.c40.specs.Text.{publish}
use Rattle.c40.specs.Calls as c40
use Rattle.dates.specs.declared.Date.{Date}
use Rattle.dates.specs.Days.{is_day, number_of, date_of}
use Rattle.dates.specs.Calls as dates
use Rattle.der.specs.declared.Body.{Body}
use Rattle.der.specs.Element.{element_in}
use Rattle.der.specs.Content.{strict}
use Rattle.integers.specs.Integer.{value_of, integer_of}
use Rattle.integers.specs.Calls as integers
use Rattle.ecdsa.specs.Signature.{der_of}
use Rattle.ecdsa.specs.Strict.{raw_of, bytes_in}
use Rattle.ecdsa.specs.Calls as ecdsa
use Rattle.words.specs.Words.{words_of}
use Rattle.words.specs.Calls as words
use Rattle.why_words.specs.Names.{name_of, words_of as rule_words}
use Rattle.why_words.specs.Calls as why_words

-- a number of a list
abbrev pub OneOf : ℕ → List ℕ → Type 0
OneOf n [] = ⊥
OneOf n (k ∷ ks) = (n ≡ k) ⊎ OneOf n ks

-- a call that fills a buffer: done, or refused with one of these numbers and nothing written
abbrev pub Answers : List ℕ → Outcome → Type 0
Answers ns o = (o ≡ done o.written) ⊎ (OneOf o.number ns × (o.written ≡ []))

-- "changes nothing in the buffers we lent"
pub keeps : (ns : List ℕ) (o : Outcome) (out : List ℕ) → Answers ns o → (o.number ≡ 0 → ⊥) → filled o out ≡ out
keeps ns o out a h =
    ⊎_elim (λ e. absurd (h (ap (λ p. p.number) e))) (λ e. ap (λ w. filled (record { number = 0; place = 0; written = w }) out) e.1) a

-- a call whose tests stand in order is done, or refused with the number of one of them
more : (n : ℕ) (ns : List ℕ) (o : Outcome) → Answers ns o → Answers (n ∷ ns) o
more n ns o a = ⊎_elim inl (λ e. inr (inr e.0, e.1)) a

choose : (ns : List ℕ) (b : Bool) (x y : Outcome) → Answers ns x → Answers ns y → Answers ns (pick b x y)
choose ns true x y l m = l
choose ns false x y l m = m

ordered : (tests : List Test) (s : List ℕ) → Answers (numbers tests) (in_order tests (done s))
ordered [] s = inl refl
ordered (t ∷ tests) s =
    choose (numbers (t ∷ tests)) t.passed (in_order tests (done s)) (refused t.number t.place)
    (more t.number (numbers tests) (in_order tests (done s)) (ordered tests s))
    (inr (inl refl, refl))

roomy : (n : ℕ) (s : List ℕ) (room : ℕ) → Answers (n ∷ []) (in_room n s room)
unfolding in_room
roomy n s room = ordered (test n 0 (leb (length s) room) ∷ []) s

-- C40 reading: 45, 40, one of 41, 46 and 47, or 42; writing: 45, 43 or 44
abbrev reading_numbers : List ℕ
reading_numbers = 45 ∷ 40 ∷ 41 ∷ 46 ∷ 47 ∷ 42 ∷ []

abbrev pairs_told : Decoded → ℕ → Outcome
pairs_told d room =
    in_order (test (c40.wrong_number d) (wrong_at d) (is_text d) ∷ test 42 0 (leb (length (text_of d)) room) ∷ []) (done (text_of d))

pairs_listed : (d : Decoded) (room : ℕ) → Answers reading_numbers (pairs_told d room)
pairs_listed (text t) room =
    choose reading_numbers (leb (length t) room) (done t) (refused 42 0) (inl refl) (inr (inr (inr (inr (inr (inr (inl refl))))), refl))
pairs_listed (wrong fault.OutOfRange at) room = inr (inr (inr (inl refl)), refl)
pairs_listed (wrong fault.Shift at) room = inr (inr (inr (inr (inl refl))), refl)
pairs_listed (wrong fault.Single at) room = inr (inr (inr (inr (inr (inl refl)))), refl)

pub c40_reading : (bytes : List ℕ) (room : ℕ) → Answers reading_numbers (c40.reading bytes room)
unfolding c40.reading
c40_reading bytes room =
    let d = decode 0 bytes in
    let pairs = pairs_told d room in
    let even = pick (eqb (length bytes % 2) 0) pairs (refused 40 (length bytes)) in
    choose reading_numbers (leb (length bytes) 4096) even (refused 45 0)
    (choose reading_numbers (eqb (length bytes % 2) 0) pairs (refused 40 (length bytes)) (pairs_listed d room)
    (inr (inr (inl refl), refl)))
    (inr (inl refl, refl))

pub c40_writing : (t : List ℕ) (room : ℕ) → Answers (45 ∷ 43 ∷ 44 ∷ []) (c40.writing t room)
unfolding c40.writing
c40_writing t room = ordered (c40.writing_tests t room) (publish t)

-- signatures to DER: 60, 61 or 63; to raw: 60, 62 or 63
pub to_der_lem : (n : ℕ) (bytes : List ℕ) (room : ℕ) → Answers (60 ∷ 61 ∷ 63 ∷ []) (ecdsa.to_der n bytes room)
unfolding ecdsa.to_der
to_der_lem n bytes room = ordered (ecdsa.to_der_tests n bytes room) (der_of n bytes)

pub to_raw_lem : (n : ℕ) (bytes : List ℕ) (room : ℕ) → Answers (60 ∷ 62 ∷ 63 ∷ []) (ecdsa.to_raw n bytes room)
unfolding ecdsa.to_raw
to_raw_lem n bytes room = ordered (ecdsa.to_raw_tests n bytes room) (bytes_in (raw_of n bytes))

-- INTEGER writing: 63
pub integer_writing : (v : ℤ) (room : ℕ) → Answers (63 ∷ []) (integers.writing v room)
unfolding integers.writing
integer_writing v room = roomy 63 (integer_of v) room

-- the words of a number: 63
pub words_told : (number room : ℕ) → Answers (63 ∷ []) (words.saying number room)
words_told number room = roomy 63 (words_of number) room

-- the name of an item, and the words of a rule: 42
pub item_named : (item room : ℕ) → Answers (42 ∷ []) (why_words.naming item room)
item_named item room = roomy 42 (name_of item) room

pub rule_told : (rule room : ℕ) → Answers (42 ∷ []) (why_words.wording rule room)
rule_told rule room = roomy 42 (rule_words rule) room

-- a call that gives a value: done, or refused with this number
abbrev pub Gives : {A : Type 0} → ℕ → A → Valued A → Type 0
Gives n zero o = (o ≡ result o.value) ⊎ (o ≡ refusal zero n)

select : {A : Type 0} (n : ℕ) (zero : A) (b : Bool) (x y : Valued A) → Gives n zero x → Gives n zero y → Gives n zero (pick b x y)
select n zero true x y l m = l
select n zero false x y l m = m

-- a date from its number: 6; to it: 22
pub date_taken : (n : ℕ) → Gives 6 dates.no_date (dates.from_number n)
unfolding dates.from_number
date_taken n = select 6 dates.no_date (is_day (date_of n)) (result (date_of n)) (refusal dates.no_date 6) (inl refl) (inr refl)

pub date_numbered : (d : Date) → Gives 22 0 (dates.to_number d)
unfolding dates.to_number
date_numbered d = select 22 0 (is_day d) (result (number_of d)) (refusal 0 22) (inl refl) (inr refl)

-- hash: 60
pub hash : (n : ℕ) → Gives 60 0 (ecdsa.hash_for n)
unfolding ecdsa.hash_for
hash n =
    let h4 : Valued ℕ = pick (eqb n 66) (result 512) (refusal 0 60) in
    let h3 : Valued ℕ = pick (eqb n 64) (result 512) h4 in
    let h2 : Valued ℕ = pick (eqb n 48) (result 384) h3 in
    let h1 : Valued ℕ = pick (eqb n 32) (result 256) h2 in
    select 60 0 (eqb n 28) (result 224) h1 (inl refl)
    (select 60 0 (eqb n 32) (result 256) h2 (inl refl)
    (select 60 0 (eqb n 48) (result 384) h3 (inl refl)
    (select 60 0 (eqb n 64) (result 512) h4 (inl refl)
    (select 60 0 (eqb n 66) (result 512) (refusal 0 60) (inl refl) (inr refl)))))

-- INTEGER reading: 65
content_listed : (c : List ℕ) → Gives 65 (pos 0) (integers.content c)
content_listed c =
    select 65 (pos 0) (strict c) (pick (ltb 8 (length c)) (refusal (pos 0) 65) (result (value_of c))) (refusal (pos 0) 65)
    (select 65 (pos 0) (ltb 8 (length c)) (refusal (pos 0) 65) (result (value_of c)) (inr refl) (inl refl))
    (inr refl)

whole_listed : (s : List ℕ) (e : Option Body) → Gives 65 (pos 0) (integers.whole s e)
whole_listed s (Some b) =
    select 65 (pos 0) (eqb b.end (length s)) (integers.content (take (b.end - b.start) (drop b.start s))) (refusal (pos 0) 65)
    (content_listed (take (b.end - b.start) (drop b.start s))) (inr refl)
whole_listed s None = inr refl

pub integer_reading : (s : List ℕ) → Gives 65 (pos 0) (integers.reading s)
unfolding integers.reading
integer_reading s = whole_listed s (element_in 0x02 s)
