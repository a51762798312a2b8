-- The rules of each kind of text, test by test: which is the first that is broken, or that all are kept.
-- Assumes nothing.
use Rattle.std.specs.Prelude.{◌≡◌, refl, Bool, true, false, ℕ, ◌+◌, ◌<◌, List, [], ◌∷◌, ltb, length, take, get_or}
use Rattle.std.proofs.Common.{ap, sym, ◌∙◌, arith, lt-ltb, le-ltb}
use Rattle.std.proofs.Math.Option.{Option, none, some}
use Rattle.format.specs.Choice.{both}
use Rattle.format.specs.Hex.{hex_value}
use Rattle.fields.specs.Characters.{is_signer}
use Rattle.causes.specs.declared.Rule.{Rule}
use Rattle.causes.specs.declared.Rule.TheVariants as rule
use Rattle.verdict.specs.Items.{unless, length_in, is_hex, in_six}

-- a rule that is broken is the one told, and past one that is kept the later ones are
pub breaks : (b : Bool) (r : Rule) (later : Option Rule) → b ≡ false → some r ≡ unless b r later
breaks b r later e = sym (ap (λ c. unless c r later) e)

pub keeps : (b : Bool) (r : Rule) (later : Option Rule) → b ≡ true → later ≡ unless b r later
keeps b r later e = sym (ap (λ c. unless c r later) e)

-- three characters, one by one
pub first_three : (t : List ℕ) → length t ≡ 3 → get_or t 0 0 ∷ get_or t 1 0 ∷ get_or t 2 0 ∷ [] ≡ t
first_three [] h = absurd (omega arith)
first_three (a ∷ []) h = absurd (omega arith)
first_three (a ∷ b ∷ []) h = absurd (omega arith)
first_three (a ∷ b ∷ c ∷ []) h = refl
first_three (a ∷ b ∷ c ∷ d ∷ t) h = absurd (omega arith)

-- the two digits of six characters
module _ (t : List ℕ) where
  hex_no_first : hex_value (get_or t 4 0) ≡ 16 → is_hex t ≡ false
  hex_no_first h = ap (λ b. both b (ltb (hex_value (get_or t 5 0)) 16)) (le-ltb (hex_value (get_or t 4 0)) 16 (omega arith))

  module _ (high : hex_value (get_or t 4 0) < 16) where
    hex_second : is_hex t ≡ ltb (hex_value (get_or t 5 0)) 16
    hex_second = ap (λ b. both b (ltb (hex_value (get_or t 5 0)) 16)) (lt-ltb (hex_value (get_or t 4 0)) 16 high)

    hex_no_second : hex_value (get_or t 5 0) ≡ 16 → is_hex t ≡ false
    hex_no_second h = hex_second ∙ le-ltb (hex_value (get_or t 5 0)) 16 (omega arith)

    hex_is : hex_value (get_or t 5 0) < 16 → is_hex t ≡ true
    hex_is low = hex_second ∙ lt-ltb (hex_value (get_or t 5 0)) 16 low

  -- six characters, past the signer
  module _ (signer : is_signer (take 4 t) ≡ true) where
    past_signer : (o : Option Rule) → o ≡ unless (is_hex t) rule.HexadecimalDigits (unless (ltb 0 (length_in t)) rule.NotZero none)
        → o ≡ in_six t
    past_signer o e = e ∙ keeps (is_signer (take 4 t)) rule.SignerCharacters _ signer

    pub six_first : hex_value (get_or t 4 0) ≡ 16 → some rule.HexadecimalDigits ≡ in_six t
    six_first h = past_signer _ (breaks (is_hex t) rule.HexadecimalDigits _ (hex_no_first h))

    module _ (high : hex_value (get_or t 4 0) < 16) where
      pub six_second : hex_value (get_or t 5 0) ≡ 16 → some rule.HexadecimalDigits ≡ in_six t
      six_second h = past_signer _ (breaks (is_hex t) rule.HexadecimalDigits _ (hex_no_second high h))

      module _ (low : hex_value (get_or t 5 0) < 16) where
        pub six_none : hex_value (get_or t 4 0) + hex_value (get_or t 5 0) ≡ 0 → some rule.NotZero ≡ in_six t
        six_none h =
            past_signer _
            (breaks (ltb 0 (length_in t)) rule.NotZero none (le-ltb 0 (length_in t) (omega arith))
            ∙ keeps (is_hex t) rule.HexadecimalDigits _ (hex_is high low))

        pub six_is : (hex_value (get_or t 4 0) + hex_value (get_or t 5 0) ≡ 0 → ⊥) → none ≡ in_six t
        six_is h =
            past_signer _
            (keeps (ltb 0 (length_in t)) rule.NotZero none (lt-ltb 0 (length_in t) (omega (arith, h)))
            ∙ keeps (is_hex t) rule.HexadecimalDigits _ (hex_is high low))
