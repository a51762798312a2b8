-- `raw_form::put_padded` meets its contract: the zeros stand in a part of `out`, and the digits are copied after them.
-- Assumes nothing.
use native.Mathlib.Omega.{arith}
use mathlib.Core.Path.{◌≡◌, ◌∙◌, ap, sym}
use Prim.Native.Nat.{ℕ, ◌+◌, ◌-◌, ◌≤◌}
use mathlib.Core.List.{List, ◌++◌}
use lib.ListN.{length, take, drop, replicate}
use Rattle.std.proofs.Common.{append_assoc, drop-drop, length-drop, length-take-le}
use Rattle.std.proofs.lemmas.List.{length-replicate}
use borrow.Rule.Slice.PartMut.{put_mid}
use Rattle.format.specs.Buffer.{over}
use Rattle.format.proofs.Buffer.Laws.{length_over}
use Rattle.blocks.specs.Blocks.{part}
use Rattle.ecdsa.proofs.Strict.Laws.{padded_put}
use Rattle.ecdsa_to_raw.proofs.raw_form.put_padded.Goals as goal

-- zeros in a part of the buffer are a write at its place
zeros_put : (out : List ℕ) (at from : ℕ) (zeros : List ℕ) → zeros ≡ replicate (from - at) 0 → at ≤ from → from ≤ length out
    → put_mid at (from - at) out zeros ≡ over out at (replicate (from - at) 0)
unfolding over
zeros_put out at from zeros e h room =
    let many : length (replicate {A = ℕ} (from - at) 0) ≡ from - at = length-replicate (from - at) 0 in
    ap (λ z. take at out ++ (z ++ drop (from - at) (drop at out))) e
    ∙ ap (λ t. take at out ++ (replicate (from - at) 0 ++ t)) (drop-drop (from - at) at out ∙ ap (λ m. drop (at + m) out) (sym many))
    ∙ sym (append_assoc (take at out) (replicate (from - at) 0) (drop (at + length (replicate {A = ℕ} (from - at) 0)) out))

pub returns : goal.returns
returns c =
    let a = c.args in
    let out = a.out.now in
    let from = a.at + (a.n - length a.digits.now) in
    let k = from - a.at in
    let size : length (take k (drop a.at out)) ≡ k = length-take-le k (drop a.at out) (omega (arith, length-drop a.at out)) in
    let zeros : c.fill.new.self ≡ replicate k 0 = c.fill.ensures.after (λ y h. h) ∙ ap (λ m. replicate m 0) size in
    let mid = put_mid a.at k out c.fill.new.self in
    let is : mid ≡ over out a.at (replicate k 0) = zeros_put out a.at from c.fill.new.self zeros (omega arith) (omega arith) in
    let many : length mid ≡ length out = ap length is ∙ length_over out a.at (replicate k 0) (omega (arith, length-replicate {A = ℕ} k 0)) in
    ap (λ t. take from mid ++ (t ++ drop (length mid - from) (drop from mid))) c.copy_lent.ensures
    ∙ part a.digits.now mid from (omega arith)
    ∙ padded_put out a.digits.now a.n a.at k mid (omega arith) (omega arith) (omega arith) is
