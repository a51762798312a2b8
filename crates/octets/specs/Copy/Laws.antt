-- Where the bytes fit, and where they do not.
-- Assumes nothing.
use borrow.Rule.Slice.PartMut.{put_mid}
use Rattle.std.specs.Prelude.{◌≡◌, refl, ℕ, ◌+◌, ◌-◌, ◌<◌, ◌≤◌, List, get_or, take, set}
use Rattle.std.proofs.Common.{ap, sym, ◌∙◌, lt-ltb, le-ltb, length-take-le, take-suc, arith, add-one}
use Rattle.std.proofs.Math.Seq.{take-length}
use Rattle.std.proofs.lemmas.Slice.{put_mid-paste}
use Rattle.std.proofs.Math.ListN.{length}
use Rattle.format.specs.Buffer.{over}
use Rattle.format.proofs.Buffer.Laws.{over_set}
use Rattle.octets.specs.Copy.{copied, reached}

module _ (from out : List ℕ) (at : ℕ) where
  pub copied_not : length out < at + length from → out ≡ copied from out at
  unfolding copied
  copied_not h = simp (lt-ltb (length out) (at + length from) h)

  pub copied_all : at + length from ≤ length out → over out at from ≡ copied from out at
  unfolding copied
  copied_all h = simp (le-ltb (length out) (at + length from) h)

  pub reached_not : length out < at + length from → at ≡ reached from (length out) at
  unfolding reached
  reached_not h = simp (lt-ltb (length out) (at + length from) h)

  pub reached_all : at + length from ≤ length out → at + length from ≡ reached from (length out) at
  unfolding reached
  reached_all h = simp (le-ltb (length out) (at + length from) h)

  -- a part of a buffer with these bytes in it
  pub part_over : (new : List ℕ) → new ≡ from → put_mid at (at + length from - at) out new ≡ over out at from
  unfolding over
  part_over new e = put_mid-paste at (at + length from - at) out new from (length from) e (omega arith) refl ∙ simp take-length

  -- a byte more than the first i
  pub one_more :
      (i : ℕ) →
      i < length from →
      at + length from ≤ length out →
      set (over out at (take i from)) (at + i) (get_or from i 0) ≡ over out at (take (i + 1) from)
  one_more i h fits =
      let many = length-take-le i from (omega arith) in
      ap (λ k. set (over out at (take i from)) (at + k) (get_or from i 0)) (sym many)
      ∙ over_set out at (take i from) (get_or from i 0) (omega arith)
      ∙ ap (over out at) (sym (take-suc from i 0 h) ∙ ap (λ k. take k from) (sym (add-one i)))
