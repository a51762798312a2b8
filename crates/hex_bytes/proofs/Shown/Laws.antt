-- What the code puts down is what is shown, by its tests.
-- Assumes nothing.
use Rattle.std.specs.Prelude.{◌≡◌, refl, ℕ, ◌+◌, ◌-◌, ◌/◌, ◌%◌, ◌<◌, List, [], ◌∷◌, ◌++◌, length, get_or, take}
use Rattle.std.proofs.Common.{ap, ◌∙◌, arith, add-one, eq-eqb, ne_eqb, append-nil, take-suc, take_all}
use Rattle.format.specs.Choice.{pick}
use Rattle.format.specs.Hex.{hex_digit}
use Rattle.lines.specs.Line.{ascii, decimal_of}
use Rattle.lines.specs.declared.written.Line.{Line}
use Rattle.lines.specs.Written.{Puts}
use Rattle.lines.specs.Written.Laws.{puts_more}
use Rattle.hex_bytes.specs.Shown.{spaced, hex_bytes, most, and_more, shown}

-- a byte: a space and its digits
module _ (byte high low : ℕ) (e : high ≡ hex_digit (byte / 16)) (f : low ≡ hex_digit (byte % 16)) where
  pub byte_put : (a b c d : Line) → Puts a (32 ∷ []) b → Puts b (high ∷ []) c → Puts c (low ∷ []) d → Puts a (spaced byte) d
  byte_put a b c d p q t =
      let one = hex_digit (byte / 16) in
      let two = hex_digit (byte % 16) in
      puts_more a b d (32 ∷ []) (one ∷ two ∷ []) p (puts_more b c d (one ∷ []) (two ∷ []) (rw e at q) (rw f at t))

-- one byte more
hex_more : (s : List ℕ) (b : ℕ) → hex_bytes (s ++ (b ∷ [])) ≡ hex_bytes s ++ spaced b
unfolding hex_bytes
hex_more [] b = refl
hex_more (x ∷ s) b = ap (λ t. spaced x ++ t) (hex_more s b)

-- a turn of the loop that puts down bytes in hexadecimal
pub hex_turn :
    (s : List ℕ) (i : ℕ) →
    i < length s →
    (a b c : Line) →
    Puts a (hex_bytes (take i s)) b →
    Puts b (spaced (get_or s i 0)) c →
    Puts a (hex_bytes (take (i + 1) s)) c
hex_turn s i here a b c p q = rw (add-one, take-suc s i 0, hex_more) (puts_more a b c (hex_bytes (take i s)) (spaced (get_or s i 0)) p q)

-- how many more there are, by the test
module _ (n : ℕ) where
  pub more_none : n ≡ 0 → and_more n ≡ []
  more_none e = ap (λ b. pick b [] (ascii " and " ++ (decimal_of n ++ ascii " more"))) (eq-eqb n 0 e)

  pub more_some : (n ≡ 0 → ⊥) → and_more n ≡ ascii " and " ++ (decimal_of n ++ ascii " more")
  more_some e = ap (λ b. pick b [] (ascii " and " ++ (decimal_of n ++ ascii " more"))) (ne_eqb n 0 e)

-- what is shown, by the tests
module _ (s : List ℕ) where
  pub shown_none : length s ≡ 0 → shown s ≡ ascii " none"
  shown_none e =
      ap (λ b. pick b (ascii " none") (hex_bytes (take most s) ++ and_more (length s - most))) (eq-eqb (length s) 0 e)

  pub shown_some : (length s ≡ 0 → ⊥) → shown s ≡ hex_bytes (take most s) ++ and_more (length s - most)
  shown_some e =
      ap (λ b. pick b (ascii " none") (hex_bytes (take most s) ++ and_more (length s - most))) (ne_eqb (length s) 0 e)

  pub shown_all : (length s ≡ 0 → ⊥) → length s < most → shown s ≡ hex_bytes s
  shown_all e h =
      shown_some e
      ∙ ap (λ t. hex_bytes (take most s) ++ t) (more_none (length s - most) (omega arith))
      ∙ append-nil (hex_bytes (take most s))
      ∙ ap hex_bytes (take_all most s (omega arith))
