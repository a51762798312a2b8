-- Document 01's number for each rule that an item may break ("The numbers a call answers"), and the codes under which callers are told of
-- items and rules (document 02, Ticket 11).
-- Assumes nothing.
use Rattle.std.specs.Prelude.{ℕ}
use Rattle.causes.specs.declared.Item.{Item}
use Rattle.causes.specs.declared.Item.TheVariants as item
use Rattle.causes.specs.declared.Rule.{Rule}
use Rattle.causes.specs.declared.Rule.TheVariants as rule

abbrev pub rule_number : Rule → ℕ
rule_number rule.NotTooLong = 1
rule_number rule.There = 2
rule_number rule.IsMark = 3
rule_number rule.IsVersion = 4
rule_number rule.WellCoded = 5
rule_number rule.CountryCode = 5
rule_number rule.SignerCharacters = 5
rule_number rule.ReferenceCharacters = 5
rule_number rule.HexadecimalDigits = 5
rule_number rule.NotZero = 5
rule_number rule.IsDay = 6
rule_number rule.OneTo254 = 7
rule_number rule.NotUsedBefore = 9
rule_number rule.BeginsLength = 8
rule_number rule.RestThere = 2
rule_number rule.Shortest = 8
rule_number rule.SignatureSize = 10
rule_number rule.NothingAfter = 11

-- items from 1 on, in the order in which they are read
abbrev pub item_code : Item → ℕ
item_code item.Seal = 1
item_code item.Mark = 2
item_code item.Version = 3
item_code item.Country = 4
item_code item.Names = 5
item_code item.SignerAndLength = 6
item_code (item.Reference size) = 7
item_code item.Issued = 8
item_code item.Signed = 9
item_code item.Definition = 10
item_code item.Category = 11
item_code item.Tag = 12
item_code item.Length = 13
item_code item.Value = 14
item_code item.SignatureLength = 15
item_code item.Signature = 16
item_code item.End = 17

-- up to 11 a rule's code is its number; from 12 on stand the rules that share their number with one of those
abbrev pub rule_code : Rule → ℕ
rule_code rule.NotTooLong = 1
rule_code rule.There = 2
rule_code rule.IsMark = 3
rule_code rule.IsVersion = 4
rule_code rule.WellCoded = 5
rule_code rule.IsDay = 6
rule_code rule.OneTo254 = 7
rule_code rule.BeginsLength = 8
rule_code rule.NotUsedBefore = 9
rule_code rule.SignatureSize = 10
rule_code rule.NothingAfter = 11
rule_code rule.CountryCode = 12
rule_code rule.SignerCharacters = 13
rule_code rule.ReferenceCharacters = 14
rule_code rule.HexadecimalDigits = 15
rule_code rule.NotZero = 16
rule_code rule.RestThere = 17
rule_code rule.Shortest = 18
