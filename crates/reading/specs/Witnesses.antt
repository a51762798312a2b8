-- Each answer from 1 to 12 is given for some input, so none is dead: an input for each, under one statement.
-- Assumes nothing.
use Rattle.std.specs.Prelude.{◌≡◌, refl, ℕ, ◌-◌, List, [], ◌∷◌, ◌++◌, map, take, drop, replicate}
use Rattle.format.specs.Bytes.{All}
use Rattle.format.specs.BigEndian.{val}
use Rattle.pairs.specs.Chart.{the_chart, value_of}
use Rattle.pairs.specs.Pairs.{pair_of, single, values}
use Rattle.c40.specs.Decode.{decode}
use Rattle.dates.specs.Days.{is_day}
use Rattle.der.specs.Length.{read_length, long_form}
use Rattle.grammar.specs.Examples.{seal_a}
use Rattle.rows.specs.Rows.{width}
use Rattle.verdict.specs.Judge.{refused, header, tag, row, features, signature, reading as reading_of, judging, judge}
use Rattle.reading.specs.Calls.{reading}

-- a seal, how many numbers and how much room are lent for its answer, and the number and place of the refusal
pub record Witness : Type 0 where
  pub seal : List ℕ
  pub numbers : ℕ
  pub room : ℕ
  pub number : ℕ
  pub place : ℕ

abbrev pub Given : Witness → Type 0
Given w = reading w.seal w.numbers w.room ≡ refused w.number w.place

-- Seal A with other bytes from a place on, as many as they are
abbrev changed : ℕ → List ℕ → List ℕ → List ℕ
changed at bytes rest = take at seal_a ++ (bytes ++ rest)

-- with room for its row and its text
abbrev roomy : List ℕ → ℕ → ℕ → Witness
roomy seal number place = record { seal = seal; numbers = width; room = 9; number = number; place = place }

abbrev pub witnesses : List Witness
witnesses =
    roomy (replicate 4097 0) 1 4096
    ∷ roomy (take 81 seal_a) 2 26
    ∷ roomy (0xDD ∷ drop 1 seal_a) 3 0
    ∷ roomy (changed 1 (0x01 ∷ []) (drop 2 seal_a)) 4 1
    ∷ roomy (changed 2 (0xFA ∷ 0x01 ∷ []) (drop 4 seal_a)) 5 2
    ∷ roomy (changed 13 (0 ∷ 0 ∷ 0 ∷ []) (drop 16 seal_a)) 6 13
    ∷ roomy (changed 17 (0xFF ∷ []) (drop 18 seal_a)) 7 17
    ∷ roomy (changed 25 (0x80 ∷ []) (drop 26 seal_a)) 8 25
    ∷ roomy (changed 24 (0x0A ∷ []) (drop 25 seal_a)) 9 24
    ∷ roomy (changed 25 (0x39 ∷ []) (drop 26 seal_a)) 10 25
    ∷ roomy (seal_a ++ (0 ∷ [])) 11 82
    ∷ record { seal = seal_a; numbers = width - 1; room = 9; number = 12; place = 0 }
    ∷ record { seal = seal_a; numbers = width; room = 8; number = 12; place = 0 }
    ∷ []

pub each_is_given : All Given witnesses
unfolding judge judging reading_of header tag row features signature decode pair_of single values the_chart value_of is_day read_length
    long_form val
each_is_given = (refl, (refl, (refl, (refl, (refl, (refl, (refl, (refl, (refl, (refl, (refl, (refl, (refl, tt)))))))))))))

-- they are 1 to 12, none left out
pub all_of_them : map (λ w. w.number) witnesses ≡ 1 ∷ 2 ∷ 3 ∷ 4 ∷ 5 ∷ 6 ∷ 7 ∷ 8 ∷ 9 ∷ 10 ∷ 11 ∷ 12 ∷ 12 ∷ []
all_of_them = refl
