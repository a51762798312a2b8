-- Document 01, "At the edges": the C40 cases, in both directions where it gives both. Room is enough: 4 bytes to write,
-- 6 characters to read.
-- Assumes nothing.
use Rattle.std.specs.Prelude.{List, [], ◌∷◌, ℕ}
use Rattle.format.specs.Answers.{done, refused}
use Rattle.c40.specs.Calls.{reading, writing}
use Rattle.cases.specs.Case.{Case}

abbrev pub writes : List ℕ → List ℕ → Case
writes text bytes = record { found = writing text 4; expected = done bytes }

abbrev pub reads : List ℕ → List ℕ → Case
reads bytes text = record { found = reading bytes 6; expected = done text }

-- VISA01, XKCD, `XK CD`, ZZZ
abbrev pub visa01 : List ℕ
visa01 = 86 ∷ 73 ∷ 83 ∷ 65 ∷ 48 ∷ 49 ∷ []

abbrev pub xkcd : List ℕ
xkcd = 88 ∷ 75 ∷ 67 ∷ 68 ∷ []

abbrev pub xk_cd : List ℕ
xk_cd = 88 ∷ 75 ∷ 32 ∷ 67 ∷ 68 ∷ []

abbrev pub zzz : List ℕ
zzz = 90 ∷ 90 ∷ 90 ∷ []

abbrev pub c40_cases : List Case
c40_cases =
    writes visa01 (0xDE ∷ 0x51 ∷ 0x58 ∷ 0x26 ∷ []) ∷
    reads (0xDE ∷ 0x51 ∷ 0x58 ∷ 0x26 ∷ []) visa01 ∷
    writes xkcd (0xEB ∷ 0x11 ∷ 0xFE ∷ 0x45 ∷ []) ∷
    reads (0xEB ∷ 0x11 ∷ 0xFE ∷ 0x45 ∷ []) xkcd ∷
    writes xk_cd (0xEB ∷ 0x04 ∷ 0x66 ∷ 0xA9 ∷ []) ∷
    reads (0xEB ∷ 0x04 ∷ 0x66 ∷ 0xA9 ∷ []) xk_cd ∷
    writes zzz (0xFA ∷ 0x00 ∷ []) ∷
    reads (0xFA ∷ 0x00 ∷ []) zzz ∷
    writes [] [] ∷
    reads [] [] ∷
    record { found = reading (0xFA ∷ 0x01 ∷ []) 6; expected = refused 41 0 } ∷
    []
