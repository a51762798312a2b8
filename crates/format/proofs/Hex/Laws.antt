-- Digit and number undo each other; and the number of a character, by the tests that lead there.
-- Assumes nothing.
use Rattle.std.specs.Prelude.{◌≡◌, refl, ℕ, ◌+◌, ◌-◌, ◌<◌, ◌≤◌, ltb}
use Rattle.std.proofs.Common.{ap, sym, ◌∙◌, arith, lt-ltb, le-ltb, ltb-true, ltb-false, le-leb}
use Rattle.std.proofs.lemmas.Bool.{lt-leb}
use Rattle.format.specs.Choice.Laws.{by_test}
use Rattle.format.specs.Hex.{hex_digit, hex_value}

-- the digit, by the number
module _ (n : ℕ) where
  pub digit_figure : n < 10 → 48 + n ≡ hex_digit n
  digit_figure h = rw (lt-ltb n 10 h) refl

  pub digit_letter : 10 ≤ n → 55 + n ≡ hex_digit n
  digit_letter h = rw (le-ltb n 10 h) refl

-- the number, by the character
module _ (c : ℕ) where
  pub value_below : c < 48 → 16 ≡ hex_value c
  value_below h = rw (lt-leb 48 c h, lt-leb 65 c (omega arith)) refl

  pub value_figure : 48 ≤ c → c ≤ 57 → c - 48 ≡ hex_value c
  value_figure h g = rw (le-leb 48 c h, le-leb c 57 g) refl

  pub value_between : 57 < c → c < 65 → 16 ≡ hex_value c
  value_between h g = rw (le-leb 48 c (omega arith), lt-leb c 57 h, lt-leb 65 c g) refl

  pub value_letter : 65 ≤ c → c ≤ 70 → c - 55 ≡ hex_value c
  value_letter h g = rw (le-leb 48 c (omega arith), lt-leb c 57 (omega arith), le-leb 65 c h, le-leb c 70 g) refl

  pub value_above : 70 < c → 16 ≡ hex_value c
  value_above h = rw (le-leb 48 c (omega arith), lt-leb c 57 (omega arith), le-leb 65 c (omega arith), lt-leb c 70 h) refl

  -- every character is below, a figure, between, a letter or above
  cases : {C : Type 0} → (16 ≡ hex_value c → C) → (48 ≤ c → c ≤ 57 → C) → (65 ≤ c → c ≤ 70 → C) → C
  cases other figure letter =
      by_test (ltb c 48) (λ e. other (value_below (ltb-true c 48 e)))
      (λ a. by_test (ltb 57 c)
      (λ b. by_test (ltb c 65) (λ e. other (value_between (ltb-true 57 c b) (ltb-true c 65 e)))
      (λ d. by_test (ltb 70 c) (λ e. other (value_above (ltb-true 70 c e)))
      (λ f. letter (ltb-false c 65 d) (ltb-false 70 c f))))
      (λ b. figure (ltb-false c 48 a) (ltb-false 57 c b)))

  pub value_most : hex_value c ≤ 16
  value_most = cases (λ e. omega arith) (λ h g. omega (arith, value_figure h g)) (λ h g. omega (arith, value_letter h g))

  -- the digit of a digit's number is that digit
  pub value_digit : hex_value c < 16 → hex_digit (hex_value c) ≡ c
  value_digit small =
      cases (λ e. absurd (omega arith))
      (λ h g. ap hex_digit (sym (value_figure h g)) ∙ sym (digit_figure (c - 48) (omega arith)) ∙ omega arith)
      (λ h g. ap hex_digit (sym (value_letter h g)) ∙ sym (digit_letter (c - 55) (omega arith)) ∙ omega arith)

-- the number of a number's digit is that number
pub digit_value : (n : ℕ) → n < 16 → hex_value (hex_digit n) ≡ n
digit_value n small =
    by_test (ltb n 10)
    (λ e.
    let h = ltb-true n 10 e in
    ap hex_value (sym (digit_figure n h)) ∙ sym (value_figure (48 + n) (omega arith) (omega arith)) ∙ omega arith)
    (λ e.
    let h = ltb-false n 10 e in
    ap hex_value (sym (digit_letter n h)) ∙ sym (value_letter (55 + n) (omega arith) (omega arith)) ∙ omega arith)
