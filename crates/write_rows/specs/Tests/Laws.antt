-- Laws of the tests of rows: the values of rows, one by one.
-- Assumes nothing.
use Rattle.std.specs.Prelude.{◌≡◌, refl, true, List, [], ◌∷◌, leb}
use Rattle.std.proofs.Common.{leb-true, le-leb}
use Rattle.format.specs.Choice.Laws.{both_true, both_are}
use Rattle.grammar.specs.Content.{Version, three, four}
use Rattle.grammar.specs.Legal.{ValueSize}
use Rattle.rows.specs.declared.Row.{Row}
use Rattle.write_rows.specs.Tests.{are_short, are_sized}

pub sized_head : (v : Version) (r : Row) (rows : List Row) → are_sized v (r ∷ rows) ≡ true → ValueSize v r.size × (are_sized v rows ≡ true)
unfolding are_short
sized_head three r rows e = let b = both_true (leb r.size 255) (are_short rows) e in (leb-true r.size 255 b.0, b.1)
sized_head four r rows e = (tt, refl)

pub sized_cons : (v : Version) (r : Row) (rows : List Row) → ValueSize v r.size → are_sized v rows ≡ true → are_sized v (r ∷ rows) ≡ true
unfolding are_short
sized_cons three r rows h e = both_are (leb r.size 255) (are_short rows) (le-leb r.size 255 h) e
sized_cons four r rows h e = refl

pub sized_none : (v : Version) → are_sized v [] ≡ true
unfolding are_short
sized_none three = refl
sized_none four = refl
