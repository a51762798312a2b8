-- Why a byte string is no seal: the first item that breaks a rule, and the first rule that it breaks.
-- Assumes nothing.
pub mod One
use Rattle.std.specs.Prelude.{◌≡◌, ℕ, List, ◌∷◌, ◌++◌, length, take, drop}
use Rattle.format.specs.Bytes.{All}
use Rattle.rules.specs.Rules.{Rule, Keeps, Placed, number_of, size_of}
use Rattle.rules.specs.Layout.{Item, rules_of, At}

-- The item stands there, and each item before it keeps each of its rules; it keeps those of its own rules that come before this one, and
-- breaks this one.
pub record Reason (s : List ℕ) : Type 0 where
  pub item : Item
  pub at : ℕ
  pub way : At s item at
  pub earlier : List Rule
  pub rule : Rule
  pub later : List Rule
  pub own : earlier ++ (rule ∷ later) ≡ rules_of item
  pub kept : All (Keeps s at) earlier
  pub broken : Keeps s at rule → ⊥
  -- the place that is told
  pub place : ℕ
  pub placed : Placed s at rule place

abbrev pub number : {s : List ℕ} → Reason s → ℕ
number r = number_of r.rule

-- the bytes judged begin at the place, and are so many: those of them that are there
abbrev pub judged : {s : List ℕ} → Reason s → ℕ
judged {s} r = length (take (size_of s r.at r.rule) (drop r.place s))
