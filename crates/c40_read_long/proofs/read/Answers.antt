-- `c40_read_long::read` meets its contract: what the long way put down is the text, and else `c40_read` answers.
-- Assumes nothing.
use native.Mathlib.Omega.{arith}
use mathlib.Core.Path.{◌≡◌, ◌∙◌, sym, subst}
use mathlib.Core.List.{List}
use Prim.Native.Nat.{ℕ, ◌%◌}
use lib.Bits.{and_mask}
use lib.ListN.{length, length-replicate}
use Rattle.format.proofs.Answers.Laws.{refuses, gives}
use Rattle.octets.specs.Copy.Laws.{copied_all}
use Rattle.c40.proofs.Calls.Laws.{reading_long, reading_odd, reading_no_room, reading_done}
use Rattle.c40_read_long.specs.Laid.{Told, Decodes}
use Rattle.c40_read_long.specs.Laid.Laws.{decodes_many}
use Rattle.c40_read_long.proofs.read.Goals as goal
use Rattle.c40_read_long.proofs.read.Goals.{Else-n-eq1, In-Some}

abbrev bytes : In-Some → List ℕ
bytes c = c.args.bytes.now

abbrev laid : In-Some → List ℕ
laid c = c.lay_text-laid.new.text

abbrev count : In-Some → ℕ
count c = c.in-Some.count

-- the low bit tells whether their number is odd
is_even : (c : Else-n-eq1) → length c.args.bytes.now % 2 ≡ 1 → ⊥
is_even c odd = c.if-n-eq1.false (and_mask (length c.args.bytes.now) 1 ∙ odd)

-- the bytes decode as what was put down
is_text_lem : (c : In-Some) → Decodes (bytes c) (laid c) (count c)
is_text_lem c = subst (λ r. Told r (bytes c) (laid c)) c.in-Some.is c.lay_text-laid.ensures

pub returns-then-n-gt4096 : goal.returns-then-n-gt4096
returns-then-n-gt4096 c =
    let out = c.args.out.now in
    let e = refuses _ 45 0 out (reading_long c.args.bytes.now (length out) (omega arith)) in
    record { answer = e.0; buffer = e.1 }

pub returns-then-n-eq1 : goal.returns-then-n-eq1
returns-then-n-eq1 c =
    let out = c.args.out.now in
    let s = c.args.bytes.now in
    let e = refuses _ 40 (length s) out (reading_odd s (length out) (omega arith) (sym (and_mask (length s) 1) ∙ c.if-n-eq1.true)) in
    record { answer = e.0; buffer = e.1 }

pub lay_text-laid-requires : goal.lay_text-laid-requires
lay_text-laid-requires c =
    let h = is_even (goal.at.lay_text-laid-requires c).Else-n-eq1 in
    record { some = omega arith; even = omega (arith, h); size = omega arith; whole = length-replicate {A = ℕ} 6144 0 }

pub returns-then-out-count : goal.returns-then-out-count
returns-then-out-count c =
    let out = c.args.out.now in
    let even = is_even (goal.at.returns-then-out-count c).Else-n-eq1 in
    let t = is_text_lem (goal.at.returns-then-out-count c).In-Some in
    let many = decodes_many t in
    let e = refuses _ 42 0 out (reading_no_room c.args.bytes.now (length out) (omega arith) even _ t.is_text_lem (omega (arith, many))) in
    record { answer = e.0; buffer = e.1 }

pub slice_bounds-text-end : goal.slice_bounds-text-end
slice_bounds-text-end c = (is_text_lem (goal.at.slice_bounds-text-end c).In-Some).room

pub slice_bounds-copy-end : goal.slice_bounds-copy-end
slice_bounds-copy-end c = sym (decodes_many (is_text_lem (goal.at.slice_bounds-copy-end c).In-Some))

pub returns : goal.returns
returns c =
    let out = c.args.out.now in
    let even = is_even (goal.at.returns c).Else-n-eq1 in
    let t = is_text_lem (goal.at.returns c).In-Some in
    let many = decodes_many t in
    let put = c.copy.ensures.buffer ∙ sym (copied_all _ _ 0 (omega (arith, many))) in
    let e =
    gives _ _ c.in-Some.count out c.copy.new.out
    (reading_done c.args.bytes.now (length out) (omega arith) even _ t.is_text_lem (omega (arith, many))) (sym many) put in
    record { answer = e.0; buffer = e.1 }
