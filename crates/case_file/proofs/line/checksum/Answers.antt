-- `case_file::line::checksum` meets its contract.
-- Assumes nothing.
use Rattle.std.proofs.Common.{◌≡◌, ◌∙◌, ℕ, ◌%◌, ◌<◌, List, [], ◌∷◌, ◌++◌, length, get_or, refl, sym, ap, append-nil, append_assoc, arith}
use Rattle.std.proofs.Math.Seq.{get_or-append_seam}
use Rattle.std.proofs.lemmas.List.{nil_from_length}
use Rattle.case_file.specs.Line.{weighted}
use Rattle.case_file.specs.Line.Laws.{total, weighted_more}
use Rattle.case_file.proofs.line.checksum.Goals as goal
use Rattle.case_file.proofs.line.checksum.Goals.{After-wide}

-- the bytes in three parts: what is left, the byte of this turn, and what was taken off the end before
parts : (s was left after : List ℕ) (b : ℕ) → s ≡ was ++ after → was ≡ left ++ (b ∷ []) → s ≡ left ++ (b ∷ after)
parts s was left after b e f = e ∙ ap (λ t. t ++ after) f ∙ append_assoc left (b ∷ []) after

here : (c : After-wide) → c.args.bytes.now ≡ c.next.new.self.iter.rest.now ++ (c.in-Some.byte.now ∷ c.loop-byte.invariant.0)
here c = parts _ _ _ _ _ c.loop-byte.invariant.1 c.in-Some.ensures.steps

small : (c : After-wide) → c.wide.result < 256
small c =
    let left = c.next.new.self.iter.rest.now in
    let byte : get_or c.args.bytes.now (length left) 0 ≡ c.in-Some.byte.now =
    ap (λ s. get_or s (length left) 0) (here c) ∙ get_or-append_seam left c.in-Some.byte.now c.loop-byte.invariant.0 0 in
    omega (arith, c.type_inv.bytes (length left), c.wide.ensures)

pub loop-byte-init : goal.loop-byte-init
unfolding total weighted
loop-byte-init c = ([], rw append-nil (cc), refl, refl)

pub overflow_add-tail : goal.overflow_add-tail
overflow_add-tail c = omega (arith, small c, c.loop-byte.invariant.2)

pub loop-byte-preserved : goal.loop-byte-preserved
unfolding total
loop-byte-preserved c =
    let after = c.loop-byte.invariant.0 in
    let more = weighted_more c.in-Some.byte.now after in
    (c.in-Some.byte.now ∷ after, here c, omega (arith, c.wide.ensures), omega (arith, c.wide.ensures, more))

pub returns : goal.returns
returns c =
    let after = c.loop-byte.invariant.0 in
    let all : c.args.bytes.now ≡ after =
    c.loop-byte.invariant.1 ∙ ap (λ t. t ++ after) (nil_from_length _ c.in-None.ensures.steps.0) in
    c.loop-byte.invariant.3 ∙ ap (λ s. weighted 1 s % 65521) (sym all)
