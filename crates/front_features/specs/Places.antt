-- The byte at a place, and bytes from a place on, as the code meets them.
-- Assumes nothing.
use Rattle.std.specs.Prelude.{◌≡◌, ℕ, ◌+◌, ◌-◌, ◌<◌, ◌≤◌, List, ◌∷◌, length, drop, get_or}
use Rattle.std.proofs.Common.{ap, sym, ◌∙◌, arith, lt-ltb, le-ltb, length-drop}
use Rattle.format.specs.Places.{at_place}
use Rattle.front_message.specs.Message.{any_front}

-- a byte that was read stands there
pub byte_here : (s : List ℕ) (at x : ℕ) → at < length s → x ≡ get_or s at 0 → drop at s ≡ x ∷ drop (at + 1) s
byte_here s at x h e = at_place s at 0 h ∙ ap (λ y. y ∷ drop (at + 1) s) (sym e)

-- bytes that are not all there
pub any_short : (n at : ℕ) (s : List ℕ) → at ≤ length s → length s - at < n → length s ≡ at + any_front n (drop at s)
any_short n at s h g =
    let l = length-drop at s in
    let e : any_front n (drop at s) ≡ length (drop at s) = rw (lt-ltb (length (drop at s)) n (omega arith)) in
    omega arith

-- bytes that are
pub any_whole : (n at : ℕ) (s : List ℕ) → n ≤ length s - at → at + n ≡ at + any_front n (drop at s)
any_whole n at s h =
    let l = length-drop at s in
    let e : any_front n (drop at s) ≡ n = rw (le-ltb (length (drop at s)) n (omega arith)) in
    omega arith
