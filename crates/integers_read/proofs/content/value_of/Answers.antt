-- `content::value_of` meets its contract: the first byte has the sign, and each further one makes the number 256 times
-- as large and adds itself.
-- Assumes nothing.
use native.Mathlib.Omega.{arith}
use native.Mathlib.Nat.{le_antisymm}
use mathlib.Core.Path.{◌≡◌, ◌∙◌, ap, sym}
use mathlib.Core.Bool.{true, not}
use Prim.Native.Nat.{ℕ, suc, ◌≤◌}
use lib.ListN.{length}
use lib.Seq.{take-suc}
use mir.Syntax.{w64}
use mir.Val.{to_z, of_z}
use Rattle.format.specs.Answers.{result}
use Rattle.der.specs.Content.{strict}
use Rattle.der.specs.Content.Laws.{strict_one, strict_more}
use Rattle.integers.specs.Integer.{value_of}
use Rattle.integers.specs.Integer.Bytewise.{Begun, byte_fits, after, after_fits, after_times, after_all}
use Rattle.integers.specs.Calls.{content}
use Rattle.integers.specs.Calls.Laws.{content_loose, content_is}
use Rattle.integers_read.proofs.content.value_of.Goals as goal
use Rattle.integers_read.proofs.content.value_of.Goals.{After-signed-v0, Else-is_redundant, Else-n-eq2, Else-n-eq3, Else-n-eq4, Else-n-eq5, Else-n-eq6, Else-n-eq7}

-- the content of the entry, and the number that its first byte makes
begun : (c : After-signed-v0) → Begun c.args.content.now c.signed-v0.result
begun c = record {
  bytes = λ i. (c.type_inv.content i).fits;
  few = c.requires.1;
  first = c.signed-v0.ensures ∙ ap value_of (sym (take-suc c.args.content.now 0 0 c.requires.0));
}

-- there is a byte more, where the content is as long and ends elsewhere
longer : (n k : ℕ) → k ≤ n → (n ≡ k → ⊥) → suc k ≤ n
longer n k h e = omega (arith, e)

over2 : (c : Else-is_redundant) → 2 ≤ length c.args.content.now
over2 c = omega arith

over3 : (c : Else-n-eq2) → 3 ≤ length c.args.content.now
over3 c = longer _ 2 (over2 (goal.at.Else-n-eq2 c).Else-is_redundant) c.if-n-eq2.false

over4 : (c : Else-n-eq3) → 4 ≤ length c.args.content.now
over4 c = longer _ 3 (over3 (goal.at.Else-n-eq3 c).Else-n-eq2) c.if-n-eq3.false

over5 : (c : Else-n-eq4) → 5 ≤ length c.args.content.now
over5 c = longer _ 4 (over4 (goal.at.Else-n-eq4 c).Else-n-eq3) c.if-n-eq4.false

over6 : (c : Else-n-eq5) → 6 ≤ length c.args.content.now
over6 c = longer _ 5 (over5 (goal.at.Else-n-eq5 c).Else-n-eq4) c.if-n-eq5.false

over7 : (c : Else-n-eq6) → 7 ≤ length c.args.content.now
over7 c = longer _ 6 (over6 (goal.at.Else-n-eq6 c).Else-n-eq5) c.if-n-eq6.false

over8 : (c : Else-n-eq7) → 8 ≤ length c.args.content.now
over8 c = longer _ 7 (over7 (goal.at.Else-n-eq7 c).Else-n-eq6) c.if-n-eq7.false

-- what is no repeat of the sign is the shortest form
is_strict : (c : Else-is_redundant) → strict c.args.content.now ≡ true
is_strict c =
    sym (strict_more c.args.content.now (omega arith)) ∙ ap not (sym c.is_redundant.ensures ∙ c.if-is_redundant.false)

-- with so many further bytes and no more, the number is the content's
all : (c : Else-is_redundant) (k : ℕ) →
    let s = c.args.content.now in
    suc k ≡ length s → result (to_z w64 (of_z w64 (after s c.signed-v0.result k))) ≡ content s
all c k e =
    ap result (after_all (begun (goal.at.Else-is_redundant c).After-signed-v0) k e) ∙ sym (content_is c.args.content.now (is_strict c) (begun (goal.at.Else-is_redundant c).After-signed-v0).few)

pub returns-then-is_redundant : goal.returns-then-is_redundant
returns-then-is_redundant c =
    sym (content_loose _ (sym (strict_more _ (omega arith)) ∙ ap not (sym c.is_redundant.ensures ∙ c.if-is_redundant.true)))

pub overflow_mul-v2 : goal.overflow_mul-v2
overflow_mul-v2 c = after_times (begun (goal.at.overflow_mul-v2 c).After-signed-v0) 1 (over3 c)

pub overflow_cast-v2 : goal.overflow_cast-v2
overflow_cast-v2 c = byte_fits (begun (goal.at.overflow_cast-v2 c).After-signed-v0) 2

pub overflow_add-v2 : goal.overflow_add-v2
overflow_add-v2 c = after_fits (begun (goal.at.overflow_add-v2 c).After-signed-v0) 2 (over3 (goal.at.overflow_add-v2 c).Else-n-eq2)

pub overflow_mul-v3 : goal.overflow_mul-v3
overflow_mul-v3 c = after_times (begun (goal.at.overflow_mul-v3 c).After-signed-v0) 2 (over4 c)

pub overflow_cast-v3 : goal.overflow_cast-v3
overflow_cast-v3 c = byte_fits (begun (goal.at.overflow_cast-v3 c).After-signed-v0) 3

pub overflow_add-v3 : goal.overflow_add-v3
overflow_add-v3 c = after_fits (begun (goal.at.overflow_add-v3 c).After-signed-v0) 3 (over4 (goal.at.overflow_add-v3 c).Else-n-eq3)

pub overflow_mul-v4 : goal.overflow_mul-v4
overflow_mul-v4 c = after_times (begun (goal.at.overflow_mul-v4 c).After-signed-v0) 3 (over5 c)

pub overflow_cast-v4 : goal.overflow_cast-v4
overflow_cast-v4 c = byte_fits (begun (goal.at.overflow_cast-v4 c).After-signed-v0) 4

pub overflow_add-v4 : goal.overflow_add-v4
overflow_add-v4 c = after_fits (begun (goal.at.overflow_add-v4 c).After-signed-v0) 4 (over5 (goal.at.overflow_add-v4 c).Else-n-eq4)

pub overflow_mul-v5 : goal.overflow_mul-v5
overflow_mul-v5 c = after_times (begun (goal.at.overflow_mul-v5 c).After-signed-v0) 4 (over6 c)

pub overflow_cast-v5 : goal.overflow_cast-v5
overflow_cast-v5 c = byte_fits (begun (goal.at.overflow_cast-v5 c).After-signed-v0) 5

pub overflow_add-v5 : goal.overflow_add-v5
overflow_add-v5 c = after_fits (begun (goal.at.overflow_add-v5 c).After-signed-v0) 5 (over6 (goal.at.overflow_add-v5 c).Else-n-eq5)

pub returns-then-n-eq6 : goal.returns-then-n-eq6
returns-then-n-eq6 c = all (goal.at.returns-then-n-eq6 c).Else-is_redundant 5 (sym c.if-n-eq6.true)

pub overflow_mul-v6 : goal.overflow_mul-v6
overflow_mul-v6 c = after_times (begun (goal.at.overflow_mul-v6 c).After-signed-v0) 5 (over7 c)

pub overflow_cast-v6 : goal.overflow_cast-v6
overflow_cast-v6 c = byte_fits (begun (goal.at.overflow_cast-v6 c).After-signed-v0) 6

pub overflow_add-v6 : goal.overflow_add-v6
overflow_add-v6 c = after_fits (begun (goal.at.overflow_add-v6 c).After-signed-v0) 6 (over7 (goal.at.overflow_add-v6 c).Else-n-eq6)

pub returns-then-n-eq7 : goal.returns-then-n-eq7
returns-then-n-eq7 c = all (goal.at.returns-then-n-eq7 c).Else-is_redundant 6 (sym c.if-n-eq7.true)

pub overflow_mul-result : goal.overflow_mul-result
overflow_mul-result c = after_times (begun (goal.at.overflow_mul-result c).After-signed-v0) 6 (over8 c)

pub overflow_cast-result : goal.overflow_cast-result
overflow_cast-result c = byte_fits (begun (goal.at.overflow_cast-result c).After-signed-v0) 7

pub overflow_add-result : goal.overflow_add-result
overflow_add-result c = after_fits (begun (goal.at.overflow_add-result c).After-signed-v0) 7 (over8 (goal.at.overflow_add-result c).Else-n-eq7)

pub returns : goal.returns
returns c = all (goal.at.returns c).Else-is_redundant 7 (le_antisymm (over8 (goal.at.returns c).Else-n-eq7) (begun (goal.at.returns c).After-signed-v0).few)

pub returns-then-n-eq1 : goal.returns-then-n-eq1
returns-then-n-eq1 c =
    ap result (after_all (begun (goal.at.returns-then-n-eq1 c).After-signed-v0) 0 (omega arith))
    ∙ sym (content_is c.args.content.now (sym (strict_one c.args.content.now (omega arith))) (begun (goal.at.returns-then-n-eq1 c).After-signed-v0).few)

pub bounds-content-1-2 : goal.bounds-content-1-2
bounds-content-1-2 c = over2 (goal.at.bounds-content-1-2 c).Else-is_redundant

pub returns-then-n-eq2 : goal.returns-then-n-eq2
returns-then-n-eq2 c = all (goal.at.returns-then-n-eq2 c).Else-is_redundant 1 (sym c.if-n-eq2.true)

pub bounds-content-2 : goal.bounds-content-2
bounds-content-2 c = over3 (goal.at.bounds-content-2 c).Else-n-eq2

pub bounds-content-3 : goal.bounds-content-3
bounds-content-3 c = over4 (goal.at.bounds-content-3 c).Else-n-eq3

pub bounds-content-4 : goal.bounds-content-4
bounds-content-4 c = over5 (goal.at.bounds-content-4 c).Else-n-eq4

pub bounds-content-5 : goal.bounds-content-5
bounds-content-5 c = over6 (goal.at.bounds-content-5 c).Else-n-eq5

pub bounds-content-6 : goal.bounds-content-6
bounds-content-6 c = over7 (goal.at.bounds-content-6 c).Else-n-eq6

pub bounds-content-7 : goal.bounds-content-7
bounds-content-7 c = over8 (goal.at.bounds-content-7 c).Else-n-eq7

pub overflow_mul-v1 : goal.overflow_mul-v1
overflow_mul-v1 c = after_times (begun (goal.at.overflow_mul-v1 c).After-signed-v0) 0 (over2 c)

pub returns-then-n-eq3 : goal.returns-then-n-eq3
returns-then-n-eq3 c = all (goal.at.returns-then-n-eq3 c).Else-is_redundant 2 (sym c.if-n-eq3.true)

pub overflow_cast-v1 : goal.overflow_cast-v1
overflow_cast-v1 c = byte_fits (begun (goal.at.overflow_cast-v1 c).After-signed-v0) 1

pub returns-then-n-eq4 : goal.returns-then-n-eq4
returns-then-n-eq4 c = all (goal.at.returns-then-n-eq4 c).Else-is_redundant 3 (sym c.if-n-eq4.true)

pub overflow_add-v1 : goal.overflow_add-v1
overflow_add-v1 c = after_fits (begun (goal.at.overflow_add-v1 c).After-signed-v0) 1 (over2 (goal.at.overflow_add-v1 c).Else-is_redundant)

pub returns-then-n-eq5 : goal.returns-then-n-eq5
returns-then-n-eq5 c = all (goal.at.returns-then-n-eq5 c).Else-is_redundant 4 (sym c.if-n-eq5.true)
