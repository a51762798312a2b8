-- A refusal's place beside the longest front part with which an accepted seal begins (document 02, Ticket 12): what
-- holds between the two.
-- Assumes nothing.
pub mod State
pub mod Names
pub mod Message
pub mod Steps
pub mod Room
pub mod Kept
pub mod Wrong
pub mod Forms
pub mod Upper
use Rattle.std.specs.Prelude.{◌≡◌, ℕ, ◌+◌, ◌≤◌, ◌<◌, List, length}
use Rattle.causes.specs.declared.Rule.{Rule as Name}
use Rattle.causes.specs.declared.Rule.TheVariants as name
use Rattle.causes.specs.declared.Why.{Why}
use Rattle.rules.specs.Rules.{called, size_of}
use Rattle.rules.specs.Layout.{Item}
use Rattle.rules.specs.Reason.{Reason, judged}
use Rattle.reason.proofs.Goes.{Told}
use Rattle.reason.specs.Judged.{judged_size}

-- How many bytes a seal has at least from an item on, as far as room for them may be wanting: a header has 186 bytes at
-- most, and so its items always have room.
abbrev pub least : Item → ℕ
least Item.seal = 0
least Item.mark = 0
least Item.version = 0
least (Item.country v) = 0
least Item.names = 0
least Item.signer_and_length = 0
least (Item.reference n) = 0
least (Item.issued v) = 0
least (Item.signed v) = 0
least (Item.definition v) = 0
least (Item.category v) = 0
-- FF, a length, and a signature of 56 bytes
least (Item.tag v tags) = 58
least (Item.value_length v tags) = 59
least (Item.value v tags n) = n + 58
least Item.signature_length = 57
least (Item.signature n) = n
least Item.end = 0

-- a rule of bytes that are there: none that asks for more bytes than there are, and not the limit of 4,096
abbrev pub OfBytes : Name → Type 0
OfBytes n = (n ≡ name.There → ⊥) × (n ≡ name.RestThere → ⊥) × (n ≡ name.NotTooLong → ⊥)

-- a rule whose breach is told at the item's first byte: not that of text, of which the first wrongly coded pair is
-- told, and not the limit
abbrev pub AtFirst : Name → Type 0
AtFirst n = (n ≡ name.WellCoded → ⊥) × (n ≡ name.NotTooLong → ⊥)

-- The longest front part with which an accepted seal begins has k bytes, and the input is refused for this reason: its
-- item stands `at`, and its `place` is told.
pub record Between (s : List ℕ) (k : ℕ) (r : Reason s) : Type 0 where
  -- all bytes before the item can stay, if there is room for the least that a seal has from it on; without that room k
  -- lies before it
  pub from_item : r.at + least r.item ≤ 4096 → r.at ≤ k
  pub before_item : 4096 < r.at + least r.item → k < r.at
  -- the place is the item's first byte, or lies behind it
  pub place_is : AtFirst (called r.rule) → r.place ≡ r.at
  pub place_from : OfBytes (called r.rule) → r.at ≤ r.place
  -- the first byte that no seal has is one of the bytes judged, which are all there, or one before them
  pub in_judged : OfBytes (called r.rule) → k < r.place + judged r
  pub all_there : OfBytes (called r.rule) → judged r ≡ size_of s r.at r.rule
  -- k is no more than the input has, and no more than a seal may have
  pub within : k ≤ length s
  pub most : k ≤ 4096

-- The same of the reader's verdict, which gives the names of item and rule, and the place: it has a reason that holds
-- so, and the bytes judged are counted from its place on.
pub record Tells (s : List ℕ) (k : ℕ) (y : Why) (place : ℕ) : Type 0 where
  pub told : Told s y place
  pub between : Between s k told.reason
  pub from_place : AtFirst y.rule → place + least told.reason.item ≤ 4096 → place ≤ k
  pub before_place : AtFirst y.rule → 4096 < place + least told.reason.item → k < place
  pub in_judged : OfBytes y.rule → k < place + judged_size s y.item y.rule place
