-- What a line says of the buffer that a call was to fill.
-- Assumes nothing.
pub mod Laws
use Rattle.std.specs.Prelude.{ℕ, Bool, true, false, cond, List, [], ◌∷◌, ◌++◌, ltb, eqb, length, take, drop}
use Rattle.case_file.specs.Line.{decimal_of, shown}

-- whether every byte is `filling`
unfoldable pub all_are : ℕ → List ℕ → Bool
all_are filling [] = true
all_are filling (b ∷ t) = cond (eqb b filling) (all_are filling t) false

-- ` kept` if every byte past the count is still 5A, else ` changed`
abbrev pub kept_words : List ℕ → ℕ → List ℕ
kept_words buffer count =
    cond (all_are 0x5A (drop count buffer)) (32 ∷ 107 ∷ 101 ∷ 112 ∷ 116 ∷ []) (32 ∷ 99 ∷ 104 ∷ 97 ∷ 110 ∷ 103 ∷ 101 ∷ 100 ∷ [])

-- the text ` more than the buffer has`
abbrev pub too_many : List ℕ
too_many =
    32 ∷ 109 ∷ 111 ∷ 114 ∷ 101 ∷ 32 ∷ 116 ∷ 104 ∷ 97 ∷ 110 ∷ 32 ∷ 116 ∷ 104 ∷ 101 ∷ 32 ∷ 98 ∷ 117 ∷ 102 ∷ 102 ∷ 101 ∷ 114 ∷ 32 ∷ 104 ∷ 97
    ∷ 115 ∷ []

-- the bytes counted, after a space; nothing if there are none
abbrev pub written_words : List ℕ → ℕ → List ℕ
written_words buffer count = cond (eqb count 0) [] (cond (ltb (length buffer) count) too_many (32 ∷ shown (take count buffer)))

-- ` wrote `, the count, the words on the bytes past it, the bytes, and a newline
abbrev pub filled_line : List ℕ → ℕ → List ℕ
filled_line buffer count =
    (32 ∷ 119 ∷ 114 ∷ 111 ∷ 116 ∷ 101 ∷ 32 ∷ [])
    ++ (decimal_of count ++ (kept_words buffer count ++ (written_words buffer count ++ (10 ∷ []))))

-- the text as far as it is counted, the count, the words on the bytes past it, and a newline
abbrev pub told_lines : List ℕ → ℕ → List ℕ
told_lines text count = take count text ++ (decimal_of count ++ (kept_words text count ++ (10 ∷ [])))

-- a number, ` at ` and a place
abbrev pub placed : ℕ → ℕ → List ℕ
placed number place = decimal_of number ++ ((32 ∷ 97 ∷ 116 ∷ 32 ∷ []) ++ decimal_of place)
