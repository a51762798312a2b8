-- `is_inside` meets its contract: two numbers compared apart, as their sum would be.
-- Assumes nothing.
use borrow.Author.Tests.{lt-leb, le-leb, leb-true, leb-false}
use native.Mathlib.Omega.{arith}
use mathlib.Core.Path.{◌≡◌, sym, ◌∙◌}
use Prim.Native.Nat.{ℕ, ◌+◌, ◌-◌, ◌≤◌}
use lib.Dec.{leb}
use Rattle.format.specs.Choice.Laws.{by_test}
use Rattle.write_rows.proofs.is_inside.Goals as goal

apart : (p x n : ℕ) → p ≤ n → leb x (n - p) ≡ leb (p + x) n
apart p x n h =
    by_test (leb x (n - p)) (λ s. s ∙ sym (le-leb (p + x) n (omega (arith, leb-true x (n - p) s))))
    (λ s. s ∙ sym (lt-leb (p + x) n (omega (arith, leb-false x (n - p) s))))

pub returns-then-size-row : goal.returns-then-size-row
returns-then-size-row c = let a = c.args in sym (lt-leb (a.row.place + a.row.size) a.size (omega arith))

pub returns : goal.returns
returns c = let a = c.args in
    apart a.row.place a.row.size a.size (omega arith)
