-- The front of a date is the longest (document 02, Ticket 12): so many bytes begin some day's, and one more none's.
-- Assumes nothing.
use Rattle.std.specs.Prelude.{◌≡◌, refl, true, List, [], ◌∷◌, ◌++◌, ℕ, ◌+◌, ◌*◌, ◌/◌, ◌%◌, ◌<◌, length, take}
use Rattle.std.proofs.Common.{ap, ap₂, sym, subst, ◌∙◌, arith, take_all}
use Rattle.format.specs.Bytes.{Bytes}
use Rattle.format.specs.Bytes.Laws.{bytes_nil, bytes_cons}
use Rattle.format.specs.BigEndian.{be, val}
use Rattle.format.specs.BigEndian.Laws.{bytes_be, be_val}
use Rattle.format.specs.Choice.Laws.{by_test}
use Rattle.dates.specs.declared.Date.{Date}
use Rattle.dates.specs.Days.{is_day, Day, first_day, number_of, date_of, publish as date}
use Rattle.dates.proofs.Days.Laws.{number_date, date_number, val_publish, length_publish}
use Rattle.dates.proofs.Exact.{first_day_lem}
use Rattle.front_days.specs.Days.{some_day, one_front, two_front, day_front}
use Rattle.front_days.specs.Days.Laws.{some_day_lem, day_some}
use Rattle.front.specs.Front.{Begins, Longest}
use Rattle.front.proofs.Front.Laws.{longest_end, longest_stop}
use Rattle.front.specs.Items.{Item}
use Rattle.front_message.specs.Message.Laws.{not_both}

-- the three bytes of a day
abbrev pub Dated : List ℕ → Type 0
Dated = Item Day date

-- the date that three bytes carry
abbrev pub value : List ℕ → Date
value t = date_of (val t 3)

-- a number's three bytes
be_three : (n : ℕ) → be 3 n ≡ (n / 65536 % 256) ∷ (n / 256 % 256) ∷ (n % 256) ∷ []
unfolding be
be_three n = let high : n / 256 / 256 ≡ n / 65536 = omega arith in ap (λ k. (k % 256) ∷ (n / 256 % 256) ∷ (n % 256) ∷ []) high

-- a day whose bytes are q and some more begins with q
begins : (q rest : List ℕ) (d : Date) → Day d → be 3 (number_of d) ≡ q ++ rest → Begins Dated q
unfolding date
begins q rest d h e = (rest, record { a = d; legal = h; is = e })

-- with nothing every day begins
none_begun : Begins Dated []
none_begun = begins [] (be 3 (number_of first_day)) first_day first_day_lem.0 refl

-- what the bytes of a day carry is its number, and each is a byte
number_of_lem : (t : List ℕ) (d : Date) → Day d → date d ≡ t → val t 3 ≡ number_of d
number_of_lem t d h e = ap (λ s. val s 3) (sym e) ∙ val_publish d h

bytes_of : (t : List ℕ) (d : Date) → date d ≡ t → Bytes t
unfolding date
bytes_of t d e = subst Bytes e (bytes_be 3 (number_of d))

-- one byte
module _ (a : ℕ) (byte : a < 256) where
  one_begun : some_day (a * 65536) 65535 ≡ true → Begins Dated (a ∷ [])
  one_begun e =
      let s = some_day_lem (a * 65536) 65535 (omega arith) e in
      let n = number_of s.0 in
      let high : n / 65536 % 256 ≡ a = omega (arith, s.2, s.3) in
      begins (a ∷ []) ((n / 256 % 256) ∷ (n % 256) ∷ []) s.0 s.1 (be_three n ∙ ap (λ x. x ∷ (n / 256 % 256) ∷ (n % 256) ∷ []) high)

  begun_one : Begins Dated (a ∷ []) → some_day (a * 65536) 65535 ≡ true
  unfolding val
  begun_one (rest, i) =
      let n = number_of_lem (a ∷ rest) i.a i.legal i.is in
      let b = bytes_of (a ∷ rest) i.a i.is in
      day_some (a * 65536) 65535 (omega arith) i.a i.legal (omega (arith, n)) (omega (arith, n, b 1, b 2))

-- two bytes
module _ (a b : ℕ) (byte : a < 256) (byte' : b < 256) where
  two_begun : some_day (a * 65536 + b * 256) 255 ≡ true → Begins Dated (a ∷ b ∷ [])
  two_begun e =
      let s = some_day_lem (a * 65536 + b * 256) 255 (omega arith) e in
      let n = number_of s.0 in
      let high : n / 65536 % 256 ≡ a = omega (arith, s.2, s.3) in
      let middle : n / 256 % 256 ≡ b = omega (arith, s.2, s.3) in
      begins (a ∷ b ∷ []) ((n % 256) ∷ []) s.0 s.1 (be_three n ∙ ap₂ (λ x y. x ∷ y ∷ (n % 256) ∷ []) high middle)

  begun_two : Begins Dated (a ∷ b ∷ []) → some_day (a * 65536 + b * 256) 255 ≡ true
  unfolding val
  begun_two (rest, i) =
      let n = number_of_lem (a ∷ b ∷ rest) i.a i.legal i.is in
      let bytes = bytes_of (a ∷ b ∷ rest) i.a i.is in
      day_some (a * 65536 + b * 256) 255 (omega arith) i.a i.legal (omega (arith, n)) (omega (arith, n, bytes 2))

-- three bytes that carry a day are its bytes
published : (t : List ℕ) → length t ≡ 3 → Bytes t → Day (value t) → date (value t) ≡ t
unfolding date
published t l b h = ap (be 3) (date_number (val t 3) h) ∙ be_val 3 t b (omega arith) ∙ take_all 3 t (omega arith)

begun_three : (a b c : ℕ) → Begins Dated (a ∷ b ∷ c ∷ []) → Day (value (a ∷ b ∷ c ∷ []))
unfolding val
begun_three a b c (rest, i) =
    let n = number_of_lem (a ∷ b ∷ c ∷ rest) i.a i.legal i.is in
    ap is_day (ap date_of n ∙ number_date i.a i.legal) ∙ i.legal

-- a day has no fourth byte
begun_four : (a b c e : ℕ) → Begins Dated (a ∷ b ∷ c ∷ e ∷ []) → ⊥
begun_four a b c e (rest, i) = omega (arith, sym (length_publish i.a) ∙ ap length i.is)

-- the front of one byte, and of two, where with the next byte no day begins
one_longest :
    (a : ℕ) (s : List ℕ) →
    a < 256 →
    (1 < length (a ∷ s) → Begins Dated (take 2 (a ∷ s)) → ⊥) →
    Longest Dated (a ∷ s) (one_front a)
one_longest a s byte other =
    by_test (some_day (a * 65536) 65535)
    (λ e. rw e (record { within = omega arith; begun = one_begun a byte e; no_more = other }))
    (λ e. rw e (longest_stop Dated a s none_begun (λ w. not_both (begun_one a byte w) e)))

two_longest :
    (a b : ℕ) (s : List ℕ) →
    a < 256 →
    b < 256 →
    (2 < length (a ∷ b ∷ s) → Begins Dated (take 3 (a ∷ b ∷ s)) → ⊥) →
    Longest Dated (a ∷ b ∷ s) (two_front a b)
two_longest a b s byte byte' other =
    by_test (some_day (a * 65536 + b * 256) 255)
    (λ e. rw e (record { within = omega arith; begun = two_begun a b byte byte' e; no_more = other }))
    (λ e. rw e (one_longest a (b ∷ s) byte (λ h w. not_both (begun_two a b byte byte' w) e)))

-- The front of a date is the longest.
pub day_longest : (s : List ℕ) → Bytes s → Longest (Item Day date) s (day_front s)
unfolding day_front
day_longest [] bytes = longest_end Dated none_begun
day_longest (a ∷ []) bytes = one_longest a [] (bytes 0) (λ h. absurd (omega arith))
day_longest (a ∷ b ∷ []) bytes = two_longest a b [] (bytes 0) (bytes 1) (λ h. absurd (omega arith))
day_longest (a ∷ b ∷ c ∷ s) bytes =
    let t = a ∷ b ∷ c ∷ [] in
    let these : Bytes t = bytes_cons a (b ∷ c ∷ []) (bytes 0) (bytes_cons b (c ∷ []) (bytes 1) (bytes_cons c [] (bytes 2) bytes_nil)) in
    by_test (is_day (value t))
    (λ e.
    rw e
    (record {
      within = omega arith;
      begun = ([], record { a = value t; legal = e; is = published t refl these e });
      no_more = four s;
    }))
    (λ e. rw e (two_longest a b (c ∷ s) (bytes 0) (bytes 1) (λ h w. not_both (begun_three a b c w) e)))
  where
    four : (r : List ℕ) → 3 < length (a ∷ b ∷ c ∷ r) → Begins Dated (take 4 (a ∷ b ∷ c ∷ r)) → ⊥
    four [] h w = absurd (omega arith)
    four (x ∷ r) h w = begun_four a b c x w

-- the bytes of a day are three
pub day_size : (d : Date) → Day d → length (date d) ≡ 3
day_size d h = length_publish d
