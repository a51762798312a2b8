-- `ecdsa_to_der::to_der` meets its contract: n and the raw length are judged, and then both halves go to `put_pair`.
-- Assumes nothing.
use native.Mathlib.Omega.{arith}
use mathlib.Core.Path.{◌≡◌, ◌∙◌, ap, sym}
use mathlib.Core.Bool.{true}
use Prim.Native.Nat.{ℕ, ◌*◌, ◌-◌}
use mathlib.Core.List.{List}
use lib.ListN.{length, take, drop, length-drop}
use lib.Seq.{length-take-le}
use Rattle.format.specs.Places.{to_end}
use Rattle.format.specs.Answers.{told, filled}
use Rattle.format.proofs.Answers.Laws.{refuses}
use Rattle.format.specs.Order.{in_room}
use Rattle.ecdsa.specs.Signature.{is_size, signature}
use Rattle.ecdsa.specs.Signature.Laws.{size_bounds}
use Rattle.ecdsa_to_der.specs.Places.{Numbers}
use Rattle.ecdsa.specs.Calls.{to_der}
use Rattle.ecdsa.specs.Calls.Laws.{to_der_no_size, to_der_wrong, to_der_formed}
use Rattle.ecdsa_to_der.proofs.to_der.Goals as goal
use Rattle.ecdsa_to_der.proofs.to_der.Goals.{Else-not-is_size}

-- n is one of the five
sized : (c : Else-not-is_size) → is_size c.args.n ≡ true
sized c = sym c.is_size.ensures ∙ c.if-not-is_size.false

-- r is the first n bytes, s the n after them
halves : (n : ℕ) (raw : List ℕ) → length raw ≡ 2 * n → (length (take n raw) ≡ n) × (length (drop n raw) ≡ n)
halves n raw h = (length-take-le n raw (omega arith), length-drop n raw ∙ omega arith)

numbers : (n : ℕ) (raw : List ℕ) → is_size n ≡ true → length raw ≡ 2 * n → Numbers (take n raw) (take (length raw - n) (drop n raw))
numbers n raw e h =
    let l = halves n raw h in
    record { size = ap is_size l.0 ∙ e; alike = ap length (to_end raw n) ∙ l.1 ∙ sym l.0 }

pub returns-then-not-is_size : goal.returns-then-not-is_size
returns-then-not-is_size c =
    let w = refuses _ 60 0 _ (to_der_no_size _ _ _ (sym c.is_size.ensures ∙ c.if-not-is_size.true)) in
    record { answer = w.0; buffer = w.1 }

pub overflow_mul-n : goal.overflow_mul-n
overflow_mul-n c = omega (arith, size_bounds _ (sized c))

pub returns-then-raw-n : goal.returns-then-raw-n
returns-then-raw-n c =
    let w = refuses _ 61 0 _ (to_der_wrong _ _ _ (sized (goal.at.returns-then-raw-n c).Else-not-is_size) c.if-raw-n.true) in
    record { answer = w.0; buffer = w.1 }

pub slice_bounds-put_pair-end : goal.slice_bounds-put_pair-end
slice_bounds-put_pair-end c = sym (halves _ _ c.if-raw-n.false).0

pub put_pair-requires : goal.put_pair-requires
put_pair-requires c = numbers _ _ (sized (goal.at.put_pair-requires c).Else-not-is_size) c.if-raw-n.false

pub returns : goal.returns
returns c =
    let a = c.args in
    let raw = a.raw.now in
    let out = a.out.now in
    let r = take a.n raw in
    let e : in_room 63 (signature r (take (length raw - a.n) (drop a.n raw))) (length out) ≡ to_der a.n raw (length out) =
    ap (λ s. in_room 63 (signature r s) (length out)) (to_end raw a.n)
    ∙ sym (to_der_formed a.n raw (length out) (sized (goal.at.returns c).Else-not-is_size) c.if-raw-n.false) in
    record { answer = c.put_pair.ensures.answer ∙ ap told e; buffer = c.put_pair.ensures.buffer ∙ ap (λ o. filled o out) e }
