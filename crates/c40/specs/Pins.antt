-- Computed readings that tell the faults of pairs apart, each beside the border of another (document 02, Ticket 1).
-- Assumes nothing.
use Rattle.std.specs.Prelude.{◌≡◌, refl, ℕ, List, [], ◌∷◌}
use Rattle.format.specs.Bytes.{All}
use Rattle.format.specs.Answers.{Outcome, done, refused}
use Rattle.pairs.specs.Chart.{the_chart, value_of}
use Rattle.pairs.specs.Pairs.{pair_of, single, values}
use Rattle.c40.specs.Decode.{decode}
use Rattle.c40.specs.Calls.{reading}

-- bytes, and what reading them answers where there is room
pub record Pin : Type 0 where
  pub bytes : List ℕ
  pub answer : Outcome

abbrev pub Holds : Pin → Type 0
Holds p = reading p.bytes 9 ≡ p.answer

abbrev alone : ℕ → ℕ → Outcome → Pin
alone x y answer = record { bytes = x ∷ y ∷ []; answer = answer }

-- before VIS, which is DE 51
abbrev inner : ℕ → ℕ → Outcome → Pin
inner x y answer = record { bytes = x ∷ y ∷ 0xDE ∷ 0x51 ∷ []; answer = answer }

-- 41: 0, and past ZZZ at 64,000, but for FE
ranges : List Pin
ranges =
    alone 0x00 0x00 (refused 41 0)
    ∷ alone 0x00 0x01 (refused 46 0)
    ∷ alone 0xFA 0x00 (done (90 ∷ 90 ∷ 90 ∷ []))
    ∷ alone 0xFA 0x01 (refused 41 0)
    ∷ alone 0xFD 0xFF (refused 41 0)
    ∷ alone 0xFE 0x00 (refused 47 0)
    ∷ alone 0xFE 0xFF (refused 47 0)
    ∷ alone 0xFF 0x00 (refused 41 0)
    ∷ []

all_ranges : All Holds ranges
unfolding ranges reading decode pair_of single values the_chart value_of
all_ranges = (refl, (refl, (refl, (refl, (refl, (refl, (refl, (refl, tt))))))))

-- 46: a shift first, second or third; 0 as the third is filling in the last pair alone
shifts : List Pin
shifts =
    alone 0x02 0x3F (refused 46 0)
    ∷ alone 0x57 0xB7 (refused 46 0)
    ∷ alone 0x59 0xB2 (refused 46 0)
    ∷ alone 0x59 0xB3 (refused 46 0)
    ∷ alone 0x59 0xB1 (done (65 ∷ 65 ∷ []))
    ∷ inner 0x59 0xB1 (refused 46 0)
    ∷ []

all_shifts : All Holds shifts
unfolding shifts reading decode pair_of single values the_chart value_of
all_shifts = (refl, (refl, (refl, (refl, (refl, (refl, tt))))))

-- 47: FE before a code that is not in the chart, and FE in a pair that is not the last; a space is FE 21, and Z is FE 5B
singles : List Pin
singles =
    alone 0xFE 0x20 (refused 47 0)
    ∷ alone 0xFE 0x21 (done (32 ∷ []))
    ∷ alone 0xFE 0x41 (refused 47 0)
    ∷ alone 0xFE 0x5B (done (90 ∷ []))
    ∷ alone 0xFE 0x5C (refused 47 0)
    ∷ inner 0xFE 0x5B (refused 47 0)
    ∷ inner 0xFE 0x5C (refused 47 0)
    ∷ []

all_singles : All Holds singles
unfolding singles reading decode pair_of single values the_chart value_of
all_singles = (refl, (refl, (refl, (refl, (refl, (refl, (refl, tt)))))))

-- of two faults the one of the first faulty pair is told, at that pair
abbrev several : List ℕ → ℕ → ℕ → Pin
several bytes number place = record { bytes = 0xDE ∷ 0x51 ∷ bytes; answer = refused number place }

orders : List Pin
orders =
    several (0x59 ∷ 0xB1 ∷ 0xFE ∷ 0x41 ∷ []) 46 2
    ∷ several (0xFE ∷ 0x41 ∷ 0x59 ∷ 0xB1 ∷ []) 47 2
    ∷ several (0xFA ∷ 0x01 ∷ 0x59 ∷ 0xB2 ∷ []) 41 2
    ∷ several (0xDE ∷ 0x51 ∷ 0x59 ∷ 0xB2 ∷ []) 46 4
    ∷ []

all_orders : All Holds orders
unfolding orders reading decode pair_of single values the_chart value_of
all_orders = (refl, (refl, (refl, (refl, tt))))
