-- What it is to be a part of lent bytes: which bytes they are, and that they are lent on and not copied.
-- Assumes nothing.
use Rattle.std.specs.Prelude.{◌≡◌, ℕ, ◌+◌, min, List, length, take, drop}
use Rattle.std.proofs.Common.{sym, ◌∙◌}
use Rattle.std.specs.Borrow.{Bor}

-- a part begins so many bytes on, and at the end where there are not so many
abbrev pub start : ℕ → List ℕ → ℕ
start from s = min from (length s)

-- r is the part of s of that size from that place on, as far as it is there
pub record IsPart (s : Bor (List ℕ)) (from size : ℕ) (r : Bor (List ℕ)) : Type 0 where
  -- its bytes
  pub bytes : r.now ≡ take size (drop from s.now)
  -- it lies in the memory that was lent, where the part begins
  pub lent : r.ref_ptr ≡ (s.ref_ptr.0, start from s.now + s.ref_ptr.1)

-- the bytes and where they lie are settled: two parts of the same bytes, from the same place and of the same size, are one
pub part_one : (s : Bor (List ℕ)) (from size : ℕ) (r q : Bor (List ℕ)) → IsPart s from size r → IsPart s from size q
    → (r.now ≡ q.now) × (r.ref_ptr ≡ q.ref_ptr)
part_one s from size r q a b = (a.bytes ∙ sym b.bytes, a.lent ∙ sym b.lent)
