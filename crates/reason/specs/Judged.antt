-- How many bytes were judged where an item breaks a rule, from the names of both (document 02, Ticket 11: "the bytes judged").
-- Assumes nothing.
use Rattle.std.specs.Prelude.{ℕ, ◌-◌, List, length}
use Rattle.causes.specs.declared.Item.{Item}
use Rattle.causes.specs.declared.Item.TheVariants as item
use Rattle.causes.specs.declared.Rule.{Rule}
use Rattle.causes.specs.declared.Rule.TheVariants as rule
use Rattle.rules.specs.Rules.{der_size}

-- how many bytes of an item are judged where it is judged whole: of a length its first, and one of what is too many
abbrev pub item_size : Item → ℕ
item_size item.Seal = 1
item_size item.Mark = 1
item_size item.Version = 1
item_size item.Country = 2
item_size item.Names = 6
item_size item.SignerAndLength = 4
item_size (item.Reference size) = size
item_size item.Issued = 3
item_size item.Signed = 3
item_size item.Definition = 1
item_size item.Category = 1
item_size item.Tag = 1
item_size item.Length = 1
item_size item.Value = 1
item_size item.SignatureLength = 1
item_size item.Signature = 1
item_size item.End = 1

-- how many bytes were judged, from the place told on
abbrev pub judged_size : List ℕ → Item → Rule → ℕ → ℕ
judged_size s item rule.NotTooLong at = item_size item
-- where bytes are missing, those that are there
judged_size s item rule.There at = length s - at
judged_size s item rule.IsMark at = item_size item
judged_size s item rule.IsVersion at = item_size item
-- of text that is wrongly coded the pair
judged_size s item rule.WellCoded at = 2
judged_size s item rule.CountryCode at = item_size item
judged_size s item rule.SignerCharacters at = item_size item
judged_size s item rule.ReferenceCharacters at = item_size item
judged_size s item rule.HexadecimalDigits at = item_size item
judged_size s item rule.NotZero at = item_size item
judged_size s item rule.IsDay at = item_size item
judged_size s item rule.OneTo254 at = item_size item
judged_size s item rule.NotUsedBefore at = item_size item
judged_size s item rule.BeginsLength at = item_size item
judged_size s item rule.RestThere at = length s - at
-- the whole length
judged_size s item rule.Shortest at = der_size s at
judged_size s item rule.SignatureSize at = der_size s at
judged_size s item rule.NothingAfter at = item_size item
