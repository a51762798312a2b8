-- Document 01, "Layout" and "A whole seal": Seal A is the published form of its content; `D<<`; version 4 names.
-- Assumes nothing.
use Rattle.std.specs.Prelude.{List, [], ◌∷◌, map}
use Rattle.format.specs.Answers.{done}
use Rattle.c40.specs.Text.{publish as c40}
use Rattle.grammar.specs.Content.{four}
use Rattle.grammar.specs.Publish.{carried, names, publish}
use Rattle.grammar.specs.Examples.{utab, ref_00001, d_fillers, content_a, seal_a}
use Rattle.cases.specs.Case.{Case}

abbrev pub seal_cases : List Case
seal_cases =
    record { found = done (publish content_a); expected = done seal_a } ∷
    record { found = done (c40 (map carried d_fillers)); expected = done (0x6A ∷ 0xBC ∷ []) } ∷
    record { found = done (names four utab ref_00001); expected = done (0xD9 ∷ 0xB7 ∷ 0x5E ∷ 0x6A ∷ 0x19 ∷ 0xA5 ∷ 0x19 ∷ 0xC9 ∷ []) } ∷
    record { found = done (names four utab (55 ∷ [])); expected = done (0xD9 ∷ 0xB7 ∷ 0x5E ∷ 0x66 ∷ 0xFE ∷ 0x38 ∷ []) } ∷
    []
