-- How many of some bytes some accepted seal begins with (document 02, Ticket 12): item by item in the order of document 01's Layout, as far
-- as an item can be completed, and behind a whole one as far as what follows can.
-- Assumes nothing.
pub mod Chain
pub mod Parts
pub mod Languages
pub mod Names
pub mod Seals
use Rattle.std.specs.Prelude.{Bool, ℕ, zero, suc, ◌+◌, ◌-◌, List, [], ◌∷◌, ltb, eqb, length, get_or, drop}
use Rattle.std.proofs.Math.Option.{Option, none, some}
use Rattle.format.specs.Choice.{pick, within}
use Rattle.c40.specs.Text.{width}
use Rattle.versions.specs.Versions.{version_of_byte}
use Rattle.grammar.specs.Content.{Version, three, four}
use Rattle.front_pairs.specs.Pairs.{pair_front, length_in}
use Rattle.front_pairs.specs.declared.Kind.TheVariants as kind
use Rattle.front_days.specs.Days.{day_front}
use Rattle.front_message.specs.Message.{message_front}

-- an item of one byte
unfoldable pub byte_front : (ℕ → Bool) → List ℕ → ℕ
byte_front test [] = 0
byte_front test (b ∷ s) = pick (test b) 1 0

-- an item of w bytes, and then more
unfoldable pub past : (List ℕ → ℕ) → ℕ → (List ℕ → ℕ) → List ℕ → ℕ
past item w more s = pick (ltb (item s) w) (item s) (w + more (drop w s))

-- features and signature, behind a header of so many bytes
unfoldable pub rest_front : Version → ℕ → List ℕ → ℕ
rest_front v header s = message_front v (suc (length s)) [] (4096 - header) s

-- definition reference and category: 1 to 254
abbrev pub last_front : List ℕ → ℕ
last_front = byte_front (within 1 254)

-- from the issue date on
unfoldable pub dates_front : Version → ℕ → List ℕ → ℕ
dates_front v header = past day_front 3 (past day_front 3 (past last_front 1 (past last_front 1 (rest_front v header))))

-- so many letters and digits, by threes, and then more
unfoldable pub text_front : ℕ → (List ℕ → ℕ) → List ℕ → ℕ
text_front zero more = more
text_front (suc zero) more = past (pair_front kind.One) 2 more
text_front (suc (suc zero)) more = past (pair_front kind.Two) 2 more
text_front (suc (suc (suc n))) more = past (pair_front kind.Triple) 2 (text_front n more)

-- version 4: the reference of the length that the two digits give, and then more. The other items of such a header have 16 bytes.
unfoldable pub reference_front : ℕ → List ℕ → ℕ
reference_front size = text_front size (dates_front four (16 + width size))

unfoldable pub length_front : List ℕ → ℕ
length_front s =
    pick (ltb (pair_front kind.Length s) 2) (pair_front kind.Length s)
    (2 + reference_front (length_in (get_or s 0 0) (get_or s 1 0)) (drop 2 s))

-- signer and reference, behind the signer's first three characters: version 3 has six more, a header of 18 bytes
unfoldable pub names_front : Version → List ℕ → ℕ
names_front three = text_front 6 (dates_front three 18)
names_front four = length_front

unfoldable pub country_front : Version → List ℕ → ℕ
country_front v = past (pair_front kind.Country) 2 (past (pair_front kind.Signer) 2 (names_front v))

abbrev pub versioned_front : Option Version → List ℕ → ℕ
versioned_front none s = 0
versioned_front (some v) s = 1 + country_front v s

unfoldable pub version_front : List ℕ → ℕ
version_front [] = 0
version_front (b ∷ s) = versioned_front (version_of_byte b) s

-- the length of the longest front part of s with which some accepted seal begins
unfoldable pub front : List ℕ → ℕ
front = past (byte_front (eqb 0xDC)) 1 version_front
