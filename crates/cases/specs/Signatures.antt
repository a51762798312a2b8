-- Document 01, "At the edges": n = 28, r = 1, s = 128, in both directions.
-- Assumes nothing.
use Rattle.std.specs.Prelude.{List, [], ◌∷◌, ◌++◌, ℕ}
use Rattle.format.specs.BigEndian.{be}
use Rattle.format.specs.Answers.{done}
use Rattle.ecdsa.specs.Calls.{to_der, to_raw}
use Rattle.cases.specs.Case.{Case}

abbrev pub raw_28 : List ℕ
raw_28 = be 28 1 ++ be 28 128

abbrev pub der_28 : List ℕ
der_28 = 0x30 ∷ 0x07 ∷ 0x02 ∷ 0x01 ∷ 0x01 ∷ 0x02 ∷ 0x02 ∷ 0x00 ∷ 0x80 ∷ []

abbrev pub signature_cases : List Case
signature_cases =
    record { found = to_der 28 raw_28 65; expected = done der_28 } ∷
    record { found = to_raw 28 der_28 56; expected = done raw_28 } ∷
    []
