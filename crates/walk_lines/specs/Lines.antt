-- The text of a walk over the features of a seal (document 02, Ticket 2): a line a feature, tag, tag place, value place and value length;
-- for a refused seal what the listing says.
-- Assumes nothing.
pub mod Laws
use Rattle.std.specs.Prelude.{◌≡◌, ℕ, List, [], ◌∷◌, ◌++◌, length, take}
use Rattle.rows.specs.declared.Row.{Row}
use Rattle.lines.specs.Line.{Put, decimal_of, ascii, ◌then◌}
use Rattle.lines.specs.declared.written.Line.{Line}
use Rattle.list_lines.specs.ListLine.{line, refusal}
use Rattle.verdict.specs.Judge.{Verdict, accepted, refused, judge}
use Rattle.walk_steps.specs.Rows.{Finds}

unfoldable pub feature : Row → List ℕ
feature r =
    line "feature "
    (decimal_of r.tag
    then ascii " at "
    then decimal_of r.start
    then ascii " value at "
    then decimal_of r.place
    then ascii " length "
    then decimal_of r.size)

unfoldable pub feature_lines : List Row → List ℕ
feature_lines [] = []
feature_lines (r ∷ rows) = feature r ++ feature_lines rows

-- THE text for a verdict on a byte string
unfoldable pub text_of : Verdict → List ℕ
text_of (accepted r) = feature_lines r.rows
text_of (refused number place) = refusal number place

-- what is put down by the walk's steps from a place on: the lines of the rows that they find
abbrev pub Tells : List ℕ → ℕ → List ℕ → ℕ → List ℕ → ℕ → Type 0
Tells s start old at new r = (rows : List Row) → Finds s start rows → Put old at (feature_lines rows) new r

-- the same through a line, which keeps its buffer
pub record TellsOn (s : List ℕ) (start : ℕ) (old new : Line) : Type 0 where
  pub tells : Tells s start old.out.now old.at new.out.now new.at
  pub size : length new.out.now ≡ length old.out.now
  pub same : new.out.ghost_name ≡ old.out.ghost_name

-- reading so many bytes of an input is enough: what is said of them is what is said of all
pub record Enough (n : ℕ) : Type 0 where
  pub same : (s : List ℕ) → text_of (judge (take n s)) ≡ text_of (judge s)
