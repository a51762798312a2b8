-- `is_text_size` meets its contract.
-- Assumes nothing.
use borrow.Author.Rules.{rules}
use mathlib.Core.Path.{◌≡◌, ap, refl, sym}
use mathlib.Core.Bool.{false}
use Prim.Native.Nat.{ℕ, ◌<◌, ◌≤◌}
use native.Mathlib.Omega.{arith}
use borrow.Author.Tests.{lt-leb, le-leb}
use lib.Dec.{leb}
use Rattle.grammar.specs.Content.{Version, four}
use Rattle.write_given.specs.Tests.{is_text_size}
use Rattle.write_given.proofs.is_text_size.Goals as goal

too_short : (v : Version) (n : ℕ) → v ≡ four → n < 5 → false ≡ is_text_size v n
too_short v n e h = rw (e, lt-leb 5 n h) refl

in_four : (v : Version) (n : ℕ) → v ≡ four → 5 ≤ n → leb n 259 ≡ is_text_size v n
in_four v n e h = rw (e, le-leb 5 n h) refl

pub returns-in-Three : goal.returns-in-Three
returns-in-Three c = let a = c.args in sym (ap (λ v. is_text_size v a.size) c.in-Three.is)

pub returns-then-size-lt5 : goal.returns-then-size-lt5
returns-then-size-lt5 c =
    let a = c.args in too_short a.version a.size c.in_default.is (omega arith)

pub returns : goal.returns
returns c =
    let a = c.args in in_four a.version a.size c.in_default.is (omega arith)
