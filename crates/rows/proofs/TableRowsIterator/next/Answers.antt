-- `TableRows::next` meets its contract: the row that stands at the place, and the rows from the next place on are left.
-- Assumes nothing.
use Rattle.std.proofs.Common.{rules, arith, ap, sym, ◌∙◌, ◌≡◌, ◌∷◌, ◌≤◌, ◌+◌, length}
use Rattle.std.specs.Prelude.{drop}
use Rattle.rows.specs.Rows.{width, row_at, rows_of}
use Rattle.rows.proofs.Rows.Laws.{found_none, found_row_lem, rows_here, rows_end}
use Rattle.rows.proofs.TableRowsIterator.next.Goals as goal
use Rattle.rows.proofs.TableRowsIterator.next.Goals.{In_ok-row}

there : (c : In_ok-row) → let s = c.args.self.now in (s.at + width ≤ length s.table.now) × (c.in_ok-row.row ≡ row_at s.table.now s.at)
there c = found_row_lem _ _ _ c.in_ok-row.ensures

first : (c : In_ok-row) → let s = c.args.self.now in rows_of (drop s.at s.table.now) ≡ c.in_ok-row.row ∷ rows_of (drop (s.at + width) s.table.now)
first c =
    let s = c.args.self.now in
    let h = there c in
    rows_here s.table.now s.at h.0 ∙ ap (λ q. q ∷ rows_of (drop (s.at + width) s.table.now)) (sym h.1)

pub returns-in_err-row-clause-steps : goal.returns-in_err-row-clause-steps
returns-in_err-row-clause-steps c =
    let s = c.args.self.now in
    let none = rows_end s.table.now s.at (found_none _ _ c.in_err-row.ensures) in
    rw c.from_residual.ensures (none, none)

pub overflow_add-self : goal.overflow_add-self
overflow_add-self c = omega (arith, (there (goal.at.overflow_add-self c).In_ok-row).0)

pub returns-clause-steps : goal.returns-clause-steps
returns-clause-steps c = first (goal.at.returns-clause-steps c).In_ok-row

pub returns-clause-goes : goal.returns-clause-goes
returns-clause-goes c = let e = ap length (first (goal.at.returns-clause-goes c).In_ok-row) in search (rules, e)
