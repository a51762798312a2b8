-- Steps worked out: where the walk over Seal A starts, what it finds, and where a step finds nothing.
-- Assumes nothing.
use Rattle.std.specs.Prelude.{◌≡◌, refl, ℕ, List, [], ◌∷◌, ◌++◌, replicate}
use Rattle.format.specs.Bytes.{All}
use Rattle.format.specs.BigEndian.{val}
use Rattle.der.specs.Length.{read_length, long_form}
use Rattle.grammar.specs.Examples.{seal_a}
use Rattle.rows.specs.Rows.{row_of}
use Rattle.verdict.specs.Judge.{accepted, refused, row}
use Rattle.verdict.specs.Judge.Pins.{report_a}
use Rattle.walk_steps.specs.declared.Step.{Step}
use Rattle.walk_steps.specs.Steps.{start_of, no_more, found, feature_at, step_at}

a_started : start_of (accepted report_a) ≡ record { number = 0; place = 0; at = 18 }
a_started = refl

refusal_started : start_of (refused 9 24) ≡ record { number = 9; place = 24; at = 0 }
refusal_started = refl

record Example : Type 0 where
  bytes : List ℕ
  at : ℕ
  step : Step

abbrev IsFound : Example → Type 0
IsFound e = step_at e.bytes e.at ≡ e.step

of : List ℕ → ℕ → Step → Example
of bytes at step = record { bytes = bytes; at = at; step = step }

-- twenty bytes of a version, and then others
abbrev three : List ℕ → List ℕ
three rest = 0xDC ∷ 0x02 ∷ replicate 18 0 ++ rest

abbrev four : List ℕ → List ℕ
four rest = 0xDC ∷ 0x03 ∷ replicate 18 0 ++ rest

steps : List Example
steps =
    -- Seal A: its feature, then FF; the place of no walk
    of seal_a 18 (found (row_of 10 18 20 4) 24)
    ∷ of seal_a 24 no_more
    ∷ of seal_a 0 no_more
    ∷ of seal_a 82 no_more
    -- a length of 81 is plain in version 3, and in version 4 it begins a length of two bytes
    ∷ of (three (0x0B ∷ 0x81 ∷ replicate 129 0)) 20 (found (row_of 11 20 22 129) 151)
    ∷ of (four (0x0B ∷ 0x81 ∷ 0x80 ∷ replicate 128 0)) 20 (found (row_of 11 20 23 128) 151)
    -- an empty value at the very end; one byte missing; no length; a length that is not the shortest
    ∷ of (three (0xFE ∷ 0x00 ∷ [])) 20 (found (row_of 254 20 22 0) 22)
    ∷ of (three (0xFE ∷ 0x02 ∷ 0x00 ∷ [])) 20 no_more
    ∷ of (three (0xFE ∷ [])) 20 no_more
    ∷ of (four (0xFE ∷ 0x81 ∷ 0x01 ∷ 0x00 ∷ [])) 20 no_more
    -- no version
    ∷ of (0xDC ∷ 0x01 ∷ 0x0A ∷ 0x00 ∷ []) 2 no_more
    ∷ of (0x0A ∷ []) 1 no_more
    ∷ []

steps_found : All IsFound steps
unfolding of steps step_at feature_at row read_length long_form val
steps_found = (refl, (refl, (refl, (refl, (refl, (refl, (refl, (refl, (refl, (refl, (refl, (refl, tt))))))))))))
