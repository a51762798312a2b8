-- The lines of a table's rows, put down one more a turn, and where they end.
-- Assumes nothing.
use Prim.Native.Nat.{ℕ, zero, suc, ◌+◌, ◌<◌}
use native.Mathlib.Omega.{arith}
use Rattle.std.specs.Prelude.{◌≡◌, refl, List, [], ◌∷◌, ◌++◌, take}
use Rattle.std.proofs.Math.Path.{ap}
use Rattle.std.proofs.Common.{sym, subst, ◌∙◌, append_assoc, append-nil}
use Rattle.lines.specs.declared.written.Line.{Line}
use Rattle.lines.specs.Written.{Puts}
use Rattle.lines.specs.Written.Laws.{puts_none, puts_more}
use Rattle.rows.specs.declared.Row.{Row}
use Rattle.rows.specs.Rows.{rows_of}
use Rattle.listing.specs.Listed.{feature, feature_lines}
use Rattle.listing.specs.Listing.{features}

-- the lines of no rows, and of one and the rows after it
lines_none : (count : ℕ) → feature_lines (take count []) ≡ []
unfolding feature_lines
lines_none zero = refl
lines_none (suc count) = refl

lines_cons : (count : ℕ) (r : Row) (rows : List Row) →
    feature_lines (take (suc count) (r ∷ rows)) ≡ feature r.tag r.place r.size ++ feature_lines (take count rows)
unfolding feature_lines
lines_cons count r rows = refl

-- no line of so many rows is left
lines_over : (more : ℕ) (left : List Row) → (0 < more → left ≡ []) → feature_lines (take more left) ≡ []
unfolding feature_lines
lines_over zero left none = refl
lines_over (suc more) left none = ap (λ rows. feature_lines (take (suc more) rows)) (none (omega arith)) ∙ lines_none (suc more)

-- how far the lines of so many rows are put down: those of the rows before stand there, and those of so many more of the rows left are left
pub record Listing (count : ℕ) (t : List ℕ) (old new : Line) (more : ℕ) (left : List Row) : Type 0 where
  pub before : List ℕ
  pub put : Puts old before new
  pub same : features count t ≡ before ++ feature_lines (take more left)

pub listing_start : (count : ℕ) (t : List ℕ) (old : Line) → Listing count t old old count (rows_of t)
unfolding features
listing_start count t old = record { before = []; put = puts_none old; same = refl }

module _ (count : ℕ) (t : List ℕ) (old mid : Line) (more : ℕ) (left : List Row) (l : Listing count t old mid more left) where
  -- all of them are put down, or all that the table has
  pub listing_end : (0 < more → left ≡ []) → Puts old (features count t) mid
  listing_end none =
      let all = l.same ∙ ap (λ z. l.before ++ z) (lines_over more left none) ∙ append-nil l.before in
      subst (λ lines. Puts old lines mid) (sym all) l.put

  -- the line of the first of the rows left is put down
  module _ (r : Row) (rest : List Row) (first : left ≡ r ∷ rest) (fewer : ℕ) (one : fewer + 1 ≡ more) where
    on : feature_lines (take more left) ≡ feature r.tag r.place r.size ++ feature_lines (take fewer rest)
    on =
        let next : more ≡ suc fewer = omega arith in
        ap (λ rows. feature_lines (take more rows)) first ∙ ap (λ k. feature_lines (take k (r ∷ rest))) next ∙ lines_cons fewer r rest

    pub listing_more : (new : Line) → Puts mid (feature r.tag r.place r.size) new → Listing count t old new fewer rest
    listing_more new p =
        let line = feature r.tag r.place r.size in
        record {
          before = l.before ++ line;
          put = puts_more old mid new l.before line l.put p;
          same = l.same ∙ ap (λ z. l.before ++ z) on ∙ sym (append_assoc l.before line (feature_lines (take fewer rest)));
        }
