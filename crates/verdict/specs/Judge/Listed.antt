-- Every refusal has a number of document 01's list: 1 to 11 of the verdict, as every rule has one of them.
-- Assumes nothing.
use Rattle.std.specs.Prelude.{ℕ, ◌≤◌, List}
use Rattle.std.proofs.Common.{arith}
use Rattle.causes.specs.Causes.{rule_number}
use Rattle.causes.specs.declared.Rule.{Rule}
use Rattle.causes.specs.declared.Rule.TheVariants as rule
use Rattle.verdict.specs.Items.{Way, is, not}
use Rattle.verdict.specs.Judge.{Report, Verdict, accepted, refused, verdict, judging, judge}

pub numbers : (r : Rule) → (1 ≤ rule_number r) × (rule_number r ≤ 11)
numbers rule.NotTooLong = (omega arith, omega arith)
numbers rule.There = (omega arith, omega arith)
numbers rule.IsMark = (omega arith, omega arith)
numbers rule.IsVersion = (omega arith, omega arith)
numbers rule.WellCoded = (omega arith, omega arith)
numbers rule.CountryCode = (omega arith, omega arith)
numbers rule.SignerCharacters = (omega arith, omega arith)
numbers rule.ReferenceCharacters = (omega arith, omega arith)
numbers rule.HexadecimalDigits = (omega arith, omega arith)
numbers rule.NotZero = (omega arith, omega arith)
numbers rule.IsDay = (omega arith, omega arith)
numbers rule.OneTo254 = (omega arith, omega arith)
numbers rule.NotUsedBefore = (omega arith, omega arith)
numbers rule.BeginsLength = (omega arith, omega arith)
numbers rule.RestThere = (omega arith, omega arith)
numbers rule.Shortest = (omega arith, omega arith)
numbers rule.SignatureSize = (omega arith, omega arith)
numbers rule.NothingAfter = (omega arith, omega arith)

-- a verdict whose number, if it is a refusal, is 1 to 11
abbrev pub FromList : Verdict → Type 0
FromList (accepted r) = Unit
FromList (refused number place) = (1 ≤ number) × (number ≤ 11)

listed : (w : Way Report) → FromList (verdict w)
listed (is r at) = tt
listed (not why place) = numbers why.rule

pub from_list : (s : List ℕ) → FromList (judge s)
unfolding judge
from_list s = listed (judging s)
