-- How long the DER form is (document 01: at least 8 bytes and at most 2n + 9), once over n; and why number 64, a content
-- of more than 255 bytes, is retired (document 02, Ticket 8).
-- Assumes nothing.
use Rattle.std.specs.Prelude.{◌≡◌, refl, true, ℕ, ◌+◌, ◌*◌, ◌<◌, ◌≤◌, List, [], ◌∷◌, map, length, take, drop, replicate}
use Rattle.std.proofs.Common.{ap, ◌∙◌, arith, length-append, length-drop, length-take-le}
use Rattle.der.specs.Length.{form}
use Rattle.der.proofs.Lengths.Exact.{form_some}
use Rattle.der.specs.Content.{shortest}
use Rattle.der.specs.Content.Laws.{shortest_size}
use Rattle.ecdsa.specs.Signature.{is_size, unsigned, integers, der_of}
use Rattle.ecdsa.specs.Signature.Laws.{integer_is, head_most, size_bounds}

-- an INTEGER of a number in n bytes takes 3 to n + 3
unsigned_size : (r : List ℕ) (n : ℕ) → length r ≡ n → n < 127 → (3 ≤ length (unsigned r)) × (length (unsigned r) ≤ n + 3)
unsigned_size r n e h =
    let b = shortest_size 0 r in
    let is = ap length (integer_is (shortest (0 ∷ r)) (omega arith)) in
    (omega arith, omega arith)

-- the content of the DER form of two numbers of n bytes each takes 6 to 2n + 6
content_size :
    (n : ℕ) (r s : List ℕ) →
    is_size n ≡ true →
    length r ≡ n →
    length s ≡ n →
    (6 ≤ length (integers r s)) × (length (integers r s) ≤ 2 * n + 6)
content_size n r s size r-long s-long =
    let b = size_bounds n size in
    let i = unsigned_size r n r-long (omega arith) in
    let j = unsigned_size s n s-long (omega arith) in
    let e = length-append (unsigned r) (unsigned s) in
    (omega arith, omega arith)

-- number 64 cannot happen: for each of the five sizes and any two numbers of n bytes the content has at most 2n + 6 bytes, so at most 138,
-- and never more than 255
pub never_64 :
    (n : ℕ) (r s : List ℕ) →
    is_size n ≡ true →
    length r ≡ n →
    length s ≡ n →
    (length (integers r s) ≤ 2 * n + 6) × (length (integers r s) ≤ 138) × (255 < length (integers r s) → ⊥)
never_64 n r s size r-long s-long =
    let b = size_bounds n size in
    let c = content_size n r s size r-long s-long in
    (c.1, omega arith, λ over. omega arith)

-- 2n + 6 is reached at each of the five sizes, and so 138 at n = 66: where the top bits of both numbers are set
abbrev pub top_bits : ℕ → List ℕ
top_bits n = integers (replicate n 0x80) (replicate n 0x80)

pub reached : map (λ n. length (top_bits n)) (28 ∷ 32 ∷ 48 ∷ 64 ∷ 66 ∷ []) ≡ 62 ∷ 70 ∷ 102 ∷ 134 ∷ 138 ∷ []
unfolding shortest form
reached = refl

-- the DER form has at least 8 bytes and at most 2n + 9
pub der_size_lem :
    (n : ℕ) (raw : List ℕ) →
    is_size n ≡ true →
    length raw ≡ 2 * n →
    (8 ≤ length (der_of n raw)) × (length (der_of n raw) ≤ 2 * n + 9)
der_size_lem n raw size h =
    let b = size_bounds n size in
    let r = take n raw in
    let s = drop n raw in
    let c = content_size n r s size (length-take-le n raw (omega arith)) (length-drop n raw ∙ omega arith) in
    let least = form_some (length (integers r s)) in
    let most = head_most (length (integers r s)) (omega arith) in
    let e = length-append (form (length (integers r s))) (integers r s) in
    (omega arith, omega arith)
