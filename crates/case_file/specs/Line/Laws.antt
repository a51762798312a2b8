-- What numbers and bytes are put down as, in the turns of the loops that do it.
-- Assumes nothing.
use Rattle.std.specs.Prelude.{ℕ, suc, ◌+◌, ◌*◌, ◌/◌, ◌%◌, ◌<◌, ◌≡◌, refl, List, [], ◌∷◌, ◌++◌, length, get_or, take}
use Rattle.std.proofs.Common.{arith, suc-mul, ap, append_assoc, append-nil, add-one, take-suc}
pub use Rattle.lines.specs.Line.Laws.{counts}
use Rattle.lines.specs.declared.written.Line.{Line}
use Rattle.lines.specs.Written.{Puts}
pub use Rattle.lines.specs.Written.Laws.{puts_none, puts_more}
use Rattle.format.specs.Hex.{hex_digit}
use Rattle.case_file.specs.Line.{decimal_of, words_of, hex_of, weighted}

pub words_more : (xs : List ℕ) (n : ℕ) → words_of (xs ++ (n ∷ [])) ≡ words_of xs ++ (32 ∷ decimal_of n)
unfolding words_of
words_more [] n = simp append-nil
words_more (x ∷ xs) n =
    let ih = words_more xs n in
    rw append_assoc (ap (λ (t : List ℕ). 32 ∷ (decimal_of x ++ t)) ih)

pub hex_more : (xs : List ℕ) (b : ℕ) → hex_of (xs ++ (b ∷ [])) ≡ hex_of xs ++ (hex_digit (b / 16) ∷ hex_digit (b % 16) ∷ [])
unfolding hex_of
hex_more [] b = refl
hex_more (x ∷ xs) b = ap (λ (t : List ℕ). hex_digit (x / 16) ∷ hex_digit (x % 16) ∷ t) (hex_more xs b)

-- a turn of the loop that puts down numbers, and of the one that puts down bytes in hex
module _ (s : List ℕ) (i : ℕ) (here : i < length s) (a b c d : Line) where
  pub words_turn : Puts a (words_of (take i s)) b → Puts b (32 ∷ []) c → Puts c (decimal_of (get_or s i 0)) d → Puts a (words_of (take (i + 1) s)) d
  words_turn p q t = rw (add-one, take-suc s i 0, words_more) (puts_more _ _ _ _ _ p (puts_more _ _ _ _ _ q t))

  pub hex_turn : (high low : ℕ) → high ≡ hex_digit (get_or s i 0 / 16) → low ≡ hex_digit (get_or s i 0 % 16) → Puts a (hex_of (take i s)) b
      → Puts b (high ∷ []) c → Puts c (low ∷ []) d → Puts a (hex_of (take (i + 1) s)) d
  hex_turn high low e f p q t =
      rw (add-one, take-suc s i 0, hex_more) (puts_more _ _ _ _ _ p (puts_more _ _ _ _ _ (rw e at q) (rw f at t)))

-- the plain sum of all bytes, which is what a place one further on adds
unfoldable pub total : List ℕ → ℕ
total [] = 0
total (b ∷ t) = b + total t

further : (k : ℕ) (s : List ℕ) → weighted (suc k) s ≡ weighted k s + total s
unfolding weighted total
further k [] = refl
further k (b ∷ t) =
    let e : weighted (suc (suc k)) t ≡ weighted (suc k) t + total t = further (suc k) t in
    let f : suc k * b ≡ k * b + b = suc-mul k b in
    omega arith

-- one byte more at the front
pub weighted_more : (b : ℕ) (t : List ℕ) → weighted 1 (b ∷ t) ≡ b + total t + weighted 1 t
unfolding weighted
weighted_more b t =
    let e : weighted 2 t ≡ weighted 1 t + total t = further 1 t in
    omega arith
