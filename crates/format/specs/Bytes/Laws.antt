-- Laws of byte strings and of rules that hold of each element.
-- Assumes nothing.
use Rattle.std.specs.Prelude.{ℕ, zero, suc, ◌+◌, ◌<◌, List, [], ◌∷◌, ◌++◌, length, get_or, take, drop, replicate}
use Rattle.std.proofs.Common.{arith, get_or-drop}
use Rattle.format.specs.Bytes.{Byte, Bytes, All}

pub bytes_nil : Bytes []
bytes_nil i = omega arith

pub bytes_cons : (x : ℕ) (s : List ℕ) → Byte x → Bytes s → Bytes (x ∷ s)
bytes_cons x s h b zero = h
bytes_cons x s h b (suc i) = b i

pub bytes_append : (s t : List ℕ) → Bytes s → Bytes t → Bytes (s ++ t)
bytes_append [] t bs bt = bt
bytes_append (x ∷ s) t bs bt = bytes_cons x (s ++ t) (bs 0) (bytes_append s t (λ i. bs (suc i)) bt)

pub bytes_drop : (n : ℕ) (s : List ℕ) → Bytes s → Bytes (drop n s)
bytes_drop n s b i = rw get_or-drop (b (n + i))

pub bytes_take : (n : ℕ) (s : List ℕ) → Bytes s → Bytes (take n s)
bytes_take zero s b = bytes_nil
bytes_take (suc n) [] b = bytes_nil
bytes_take (suc n) (x ∷ s) b = bytes_cons x (take n s) (b 0) (bytes_take n s (λ i. b (suc i)))

pub bytes_replicate : (n x : ℕ) → Byte x → Bytes (replicate n x)
bytes_replicate zero x h = bytes_nil
bytes_replicate (suc n) x h = bytes_cons x (replicate n x) h (bytes_replicate n x h)

module _ {A : Type 0} (P : A → Type 0) where
  pub all_append : (s t : List A) → All P s → All P t → All P (s ++ t)
  all_append [] t a b = b
  all_append (x ∷ s) t a b = (a.0, all_append s t a.1 b)

  pub all_front : (s t : List A) → All P (s ++ t) → All P s
  all_front [] t a = tt
  all_front (x ∷ s) t a = (a.0, all_front s t a.1)

  pub all_back : (s t : List A) → All P (s ++ t) → All P t
  all_back [] t a = a
  all_back (x ∷ s) t a = all_back s t a.1

  -- a rule of each element, at an index
  pub all_at : (d : A) (s : List A) → All P s → (i : ℕ) → i < length s → P (get_or s i d)
  all_at d [] a i h = absurd (omega arith)
  all_at d (x ∷ s) a zero h = a.0
  all_at d (x ∷ s) a (suc i) h = all_at d s a.1 i (omega arith)

  pub all_of : (d : A) (s : List A) → ((i : ℕ) → i < length s → P (get_or s i d)) → All P s
  all_of d [] f = tt
  all_of d (x ∷ s) f = (f 0 (omega arith), all_of d s (λ i h. f (suc i) (omega arith)))
