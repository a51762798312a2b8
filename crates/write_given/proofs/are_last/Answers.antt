-- `are_last` meets its contract.
-- Assumes nothing.
use mathlib.Core.Path.{◌≡◌, refl}
use mathlib.Core.Bool.{false}
use Prim.Native.Nat.{◌<◌, ◌≤◌}
use native.Mathlib.Omega.{arith}
use borrow.Author.Tests.{lt-leb, le-leb}
use lib.Dec.{leb}
use Rattle.fields.specs.declared.Header.{Header}
use Rattle.write_given.specs.Tests.{are_last}
use Rattle.write_given.proofs.are_last.Goals as goal

module _ (h : Header) where
  low : h.definition < 1 → false ≡ are_last h
  low a = rw (lt-leb 1 h.definition a) refl

  high : 1 ≤ h.definition → 254 < h.definition → false ≡ are_last h
  high a b = rw (le-leb 1 h.definition a, lt-leb h.definition 254 b) refl

  low_category : 1 ≤ h.definition → h.definition ≤ 254 → h.category < 1 → false ≡ are_last h
  low_category a b d = rw (le-leb 1 h.definition a, le-leb h.definition 254 b, lt-leb 1 h.category d) refl

  all_but : 1 ≤ h.definition → h.definition ≤ 254 → 1 ≤ h.category → leb h.category 254 ≡ are_last h
  all_but a b d = rw (le-leb 1 h.definition a, le-leb h.definition 254 b, le-leb 1 h.category d) refl

pub returns-then-header-lt1 : goal.returns-then-header-lt1
returns-then-header-lt1 c = low c.args.header (omega arith)

pub returns-then-header-gt254 : goal.returns-then-header-gt254
returns-then-header-gt254 c = high c.args.header (omega arith) (omega arith)

pub returns-then-header-lt1-2 : goal.returns-then-header-lt1-2
returns-then-header-lt1-2 c = low_category c.args.header (omega arith) (omega arith) (omega arith)

pub returns : goal.returns
returns c = all_but c.args.header (omega arith) (omega arith) (omega arith)
