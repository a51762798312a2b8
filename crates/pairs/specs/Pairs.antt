-- What a pair of bytes carries (document 01, C40; Doc 9303-13, 2.6.2): which pairs are well coded, their characters, and their form.
-- Assumes nothing.
use Rattle.std.specs.Prelude.{Bool, ℕ, ◌+◌, ◌-◌, ◌*◌, ◌/◌, ◌%◌, List, [], ◌∷◌, ltb, eqb, Result, Ok, Err}
use Rattle.format.specs.Choice.{pick}
use Rattle.format.specs.BigEndian.{be}
use Rattle.pairs.specs.Chart.{char_in, is_in, shift, value_of}
use Rattle.pairs.specs.declared.decode.Fault.TheVariants.{OutOfRange, Shift, Single}
use Rattle.pairs.specs.declared.decode.Fault.{Fault}
use Rattle.pairs.specs.declared.decode.Pair.{Pair}
use Rattle.pairs.specs.declared.decode.Pair.TheVariants.{Three, Two, One}

-- three values a, b, c make 1600a + 40b + c + 1, big-endian in two bytes
abbrev pub packed_of : ℕ → ℕ → ℕ → ℕ
packed_of a b c = 1600 * a + 40 * b + c + 1

unfoldable pub triple : ℕ → ℕ → ℕ → List ℕ
triple a b c = be 2 (packed_of a b c)

-- the pair's number, and the three values that a number from 1 to 64,000 is made of
abbrev pub number : ℕ → ℕ → ℕ
number x y = x * 256 + y

abbrev pub first : ℕ → ℕ
first n = (n - 1) / 1600

abbrev pub second : ℕ → ℕ
second n = (n - 1) / 40 % 40

abbrev pub third : ℕ → ℕ
third n = (n - 1) % 40

-- by a chart: FE stands only at the start of the last pair, and then comes the code plus 1 of a character of the chart
unfoldable pub single : List ℕ → Bool → ℕ → Result Pair Fault
single chart last y =
    pick last (pick (ltb 0 y) (pick (is_in chart (y - 1)) (Ok (One (y - 1))) (Err Single)) (Err Single)) (Err Single)

-- values 1 and 2 never occur, and 0 only as the third of the last pair
unfoldable pub values : List ℕ → Bool → ℕ → ℕ → ℕ → Result Pair Fault
values chart last a b c =
    pick (shift a) (Err Shift)
    (pick (shift b) (Err Shift)
    (pick (shift c)
    (pick (eqb c 0) (pick last (Ok (Two (char_in chart a) (char_in chart b))) (Err Shift)) (Err Shift))
    (Ok (Three (char_in chart a) (char_in chart b) (char_in chart c)))))

-- what a pair carries, or its fault: a number of 0 or over 64,000 that does not begin with FE is no triple
unfoldable pub pair_of : List ℕ → Bool → ℕ → ℕ → Result Pair Fault
pair_of chart last x y =
    pick (eqb x 0xFE) (single chart last y)
    (pick (ltb 0 (number x y))
    (pick (ltb 64000 (number x y)) (Err OutOfRange)
    (values chart last (first (number x y)) (second (number x y)) (third (number x y))))
    (Err OutOfRange))

-- the characters that a pair carries
abbrev pub chars_of : Result Pair Fault → List ℕ
chars_of (Ok (Three a b c)) = a ∷ b ∷ c ∷ []
chars_of (Ok (Two a b)) = a ∷ b ∷ []
chars_of (Ok (One a)) = a ∷ []
chars_of (Err fault) = []

-- their form: two are completed with 0, one is FE and its ASCII code plus 1
abbrev pub form_of : Result Pair Fault → List ℕ
form_of (Ok (Three a b c)) = triple (value_of a) (value_of b) (value_of c)
form_of (Ok (Two a b)) = triple (value_of a) (value_of b) 0
form_of (Ok (One a)) = 0xFE ∷ (a + 1) ∷ []
form_of (Err fault) = []
