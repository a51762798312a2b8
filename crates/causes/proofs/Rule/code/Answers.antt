-- `Rule::code` meets its contract, case by case.
-- Assumes nothing.
use borrow.Author.Rules.{rules}
use mathlib.Core.Path.{ap, sym}
use Rattle.causes.specs.Causes.{rule_code}
use Rattle.causes.proofs.Rule.code.Goals as goal

pub returns-in-NotTooLong : goal.returns-in-NotTooLong
returns-in-NotTooLong c = sym (ap rule_code c.in-NotTooLong.is)

pub returns-in-There : goal.returns-in-There
returns-in-There c = sym (ap rule_code c.in-There.is)

pub returns-in-IsMark : goal.returns-in-IsMark
returns-in-IsMark c = sym (ap rule_code c.in-IsMark.is)

pub returns-in-IsVersion : goal.returns-in-IsVersion
returns-in-IsVersion c = sym (ap rule_code c.in-IsVersion.is)

pub returns-in-WellCoded : goal.returns-in-WellCoded
returns-in-WellCoded c = sym (ap rule_code c.in-WellCoded.is)

pub returns-in-CountryCode : goal.returns-in-CountryCode
returns-in-CountryCode c = sym (ap rule_code c.in-CountryCode.is)

pub returns-in-SignerCharacters : goal.returns-in-SignerCharacters
returns-in-SignerCharacters c = sym (ap rule_code c.in-SignerCharacters.is)

pub returns-in-ReferenceCharacters : goal.returns-in-ReferenceCharacters
returns-in-ReferenceCharacters c = sym (ap rule_code c.in-ReferenceCharacters.is)

pub returns-in-HexadecimalDigits : goal.returns-in-HexadecimalDigits
returns-in-HexadecimalDigits c = sym (ap rule_code c.in-HexadecimalDigits.is)

pub returns-in-NotZero : goal.returns-in-NotZero
returns-in-NotZero c = sym (ap rule_code c.in-NotZero.is)

pub returns-in-IsDay : goal.returns-in-IsDay
returns-in-IsDay c = sym (ap rule_code c.in-IsDay.is)

pub returns-in-OneTo254 : goal.returns-in-OneTo254
returns-in-OneTo254 c = sym (ap rule_code c.in-OneTo254.is)

pub returns-in-NotUsedBefore : goal.returns-in-NotUsedBefore
returns-in-NotUsedBefore c = sym (ap rule_code c.in-NotUsedBefore.is)

pub returns-in-BeginsLength : goal.returns-in-BeginsLength
returns-in-BeginsLength c = sym (ap rule_code c.in-BeginsLength.is)

pub returns-in-RestThere : goal.returns-in-RestThere
returns-in-RestThere c = sym (ap rule_code c.in-RestThere.is)

pub returns-in-Shortest : goal.returns-in-Shortest
returns-in-Shortest c = sym (ap rule_code c.in-Shortest.is)

pub returns-in-SignatureSize : goal.returns-in-SignatureSize
returns-in-SignatureSize c = sym (ap rule_code c.in-SignatureSize.is)

pub returns-in-NothingAfter : goal.returns-in-NothingAfter
returns-in-NothingAfter c = sym (ap rule_code c.in-NothingAfter.is)
