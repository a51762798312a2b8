-- There and back: a version is that of its number and of its byte, and a number or byte that says a version is that version's.
-- Assumes nothing.
use Rattle.std.specs.Prelude.{◌≡◌, refl, Bool, true, false, ℕ, eqb}
use Rattle.std.proofs.Common.{ap, sym, ◌∙◌, eq-eqb, ne_eqb, eqb-true}
use Rattle.std.proofs.Math.Option.{none, some, some-injective, none-ne-some}
use Rattle.format.specs.Choice.{pick}
use Rattle.versions.specs.Versions.{version_number, version_byte, version_of, version_of_byte}
use Rattle.versions.specs.declared.Version.{Version}
use Rattle.versions.specs.declared.Version.TheVariants.{Three as three, Four as four}

pub number_back_lem : (v : Version) → version_of (version_number v) ≡ some v
number_back_lem three = refl
number_back_lem four = refl

pub byte_back_lem : (v : Version) → version_of_byte (version_byte v) ≡ some v
byte_back_lem three = refl
byte_back_lem four = refl

-- no two versions have one byte
pub one_version : (a b : Version) → version_byte a ≡ version_byte b → a ≡ b
one_version a b e = some-injective a b (sym (byte_back_lem a) ∙ ap version_of_byte e ∙ byte_back_lem b)

-- a choice of two by two tests that gives a version gives the one of them whose test is passed
abbrev Chosen : (Version → ℕ) → ℕ → Bool → Bool → Type 0
Chosen f n b c = (v : Version) → pick b (some three) (pick c (some four) none) ≡ some v → n ≡ f v

chosen : (f : Version → ℕ) (n : ℕ) (b c : Bool) → (b ≡ true → n ≡ f three) → (c ≡ true → n ≡ f four) → Chosen f n b c
chosen f n true c first second v e = first refl ∙ ap f (some-injective three v e)
chosen f n false true first second v e = second refl ∙ ap f (some-injective four v e)
chosen f n false false first second v e = absurd (none-ne-some v e)

pub number_of_lem : (n : ℕ) (v : Version) → version_of n ≡ some v → n ≡ version_number v
number_of_lem n v e = chosen version_number n (eqb n 3) (eqb n 4) (eqb-true n 3) (eqb-true n 4) v e

pub byte_of : (x : ℕ) (v : Version) → version_of_byte x ≡ some v → x ≡ version_byte v
byte_of x v e = chosen version_byte x (eqb x 0x02) (eqb x 0x03) (eqb-true x 0x02) (eqb-true x 0x03) v e

-- by the tests, for the numbers 3 and 4 and for the bytes 02 and 03
module _ (a b n : ℕ) where
  pub is_three : n ≡ a → some three ≡ pick (eqb n a) (some three) (pick (eqb n b) (some four) none)
  is_three e = rw (eq-eqb n a e) refl

  module _ (other : n ≡ a → ⊥) where
    pub is_four : n ≡ b → some four ≡ pick (eqb n a) (some three) (pick (eqb n b) (some four) none)
    is_four e = rw (ne_eqb n a other, eq-eqb n b e) refl

    pub is_none : (n ≡ b → ⊥) → none ≡ pick (eqb n a) (some three) (pick (eqb n b) (some four) none)
    is_none h = rw (ne_eqb n a other, ne_eqb n b h) refl
