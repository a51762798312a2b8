-- What the two calls answer, for every input (document 01, numbers 40 to 45; document 02, Ticket 1, 46 and 47), and the number and place of
-- each case of their answers.
-- Assumes nothing.
use Rattle.std.specs.Prelude.{ℕ, suc, ◌%◌, List, [], ◌∷◌, leb, eqb, length, Result, Ok, Err}
use Rattle.format.specs.Choice.{pick}
use Rattle.format.specs.Answers.{Outcome, Answer, done}
use Rattle.format.specs.Order.{Test, test, in_order}
use Rattle.pairs.specs.Chart.{in_chart}
use Rattle.c40.specs.Text.{publish, width}
use Rattle.pairs.specs.declared.decode.Fault.{Fault}
use Rattle.pairs.specs.declared.decode.Fault.TheVariants as fault
use Rattle.c40.specs.Decode.{Decoded, decode, text_of, is_text, wrong_at}
use Rattle.c40.specs.Decode as decoded
use Rattle.c40.specs.declared.ReadError.{ReadError}
use Rattle.c40.specs.declared.ReadError.TheVariants as read
use Rattle.c40.specs.declared.WriteError.{WriteError}
use Rattle.c40.specs.declared.WriteError.TheVariants as write

-- the number of each fault of a pair: its value is 0 or over 64,000; a shift value where none may stand; FE misplaced, or a code outside
-- the chart after it
abbrev pub fault_number : Fault → ℕ
fault_number fault.OutOfRange = 41
fault_number fault.Shift = 46
fault_number fault.Single = 47

abbrev pub wrong_number : Decoded → ℕ
wrong_number (decoded.text t) = 0
wrong_number (decoded.wrong fault at) = fault_number fault

-- reading: 45, 40, then 41, 46 or 47, which share one rank as the first faulty pair decides, then 42
abbrev pub reading_tests : List ℕ → ℕ → List Test
reading_tests bytes room =
    test 45 0 (leb (length bytes) 4096)
    ∷ test 40 (length bytes) (eqb (length bytes % 2) 0)
    ∷ test (wrong_number (decode 0 bytes)) (wrong_at (decode 0 bytes)) (is_text (decode 0 bytes))
    ∷ test 42 0 (leb (length (text_of (decode 0 bytes))) room)
    ∷ []

unfoldable pub reading : List ℕ → ℕ → Outcome
reading bytes room = in_order (reading_tests bytes room) (done (text_of (decode 0 bytes)))

-- the index of the first character that is not in the chart, or the length
unfoldable pub known : List ℕ → ℕ
known [] = 0
known (c ∷ t) = pick (in_chart c) (suc (known t)) 0

-- writing: 45, 43, 44
abbrev pub writing_tests : List ℕ → ℕ → List Test
writing_tests text room =
    test 45 0 (leb (length text) 6144)
    ∷ test 43 (known text) (leb (length text) (known text))
    ∷ test 44 0 (leb (width (length text)) room)
    ∷ []

unfoldable pub writing : List ℕ → ℕ → Outcome
writing text room = in_order (writing_tests text room) (done (publish text))

-- number, place and count of each case
abbrev pub reading_of : Result ℕ ReadError → Answer
reading_of (Ok count) = record { number = 0; place = 0; count = count }
reading_of (Err read.TooLong) = record { number = 45; place = 0; count = 0 }
reading_of (Err (read.Odd at)) = record { number = 40; place = at; count = 0 }
reading_of (Err (read.WrongPair wrong)) = record { number = fault_number wrong.fault; place = wrong.place; count = 0 }
reading_of (Err read.NoRoom) = record { number = 42; place = 0; count = 0 }

abbrev pub writing_of : Result ℕ WriteError → Answer
writing_of (Ok count) = record { number = 0; place = 0; count = count }
writing_of (Err write.TooLong) = record { number = 45; place = 0; count = 0 }
writing_of (Err (write.Stranger at)) = record { number = 43; place = at; count = 0 }
writing_of (Err write.NoRoom) = record { number = 44; place = 0; count = 0 }
