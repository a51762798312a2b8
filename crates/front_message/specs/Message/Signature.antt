-- The signature zone behind FF: which lengths begin one, and that `signature_front` is the longest front part of one.
-- Assumes nothing.
use Rattle.std.specs.Prelude.{◌≡◌, refl, true, false, List, [], ◌∷◌, ◌++◌, ℕ, suc, ◌+◌, ◌-◌, ◌≤◌, ◌<◌, ltb, eqb, length, get_or, take}
use Rattle.std.proofs.Common.{sym, ap, ◌∙◌, subst, append-nil, ⊎_elim, arith, eq-eqb, eqb-true, ltb-true, ltb-false, length-append, take_all, length-take-le}
use Rattle.format.specs.Bytes.{Bytes}
use Rattle.format.specs.Bytes.Laws.{bytes_append, bytes_take}
use Rattle.format.specs.Choice.{pick}
use Rattle.format.specs.Choice.Laws.{by_test, either_true, not_true}
use Rattle.der.specs.Length.{form}
use Rattle.der.proofs.Lengths.Exact.{form_short, cut_form}
use Rattle.grammar.specs.Legal.{SignatureSize, n28, n32, n48, n64, n66}
use Rattle.grammar.proofs.Sizes.{has}
use Rattle.front.specs.Front.{Longest}
use Rattle.front.proofs.Room.{Within, Cheapest, step, stop, end}
use Rattle.front_message.specs.Message.{any_front, long_front, signature_front}
use Rattle.front_message.specs.Message.Laws.{head_is, tail_is, not_both, form_one}
use Rattle.front_message.specs.Message.Languages.{Raw, Sig}
use Rattle.front_message.specs.Message.Least.{zeros, zeros_length, zeros_bytes, zeros_raw, signature_range, raw_sig, sig_cheapest}

-- n bytes, whatever they are
pub raw_is : (n room : ℕ) (s : List ℕ) → Bytes s → n ≤ room → Longest (Within room (Raw n)) s (any_front n s)
raw_is n room s b h =
    by_test (ltb (length s) n)
    (λ l.
    let less = ltb-true (length s) n l in
    let whole = take_all (length s) s (omega arith) in
    let z = zeros (n - length s) in
    let size : length (s ++ z) ≡ n = length-append s z ∙ omega (arith, zeros_length (n - length s)) in
    let raw : Within room (Raw n) (s ++ z) = ((size, bytes_append s z b (zeros_bytes (n - length s))), omega arith) in
    simp l record {
      within = omega arith;
      begun = (z, subst (λ x. Within room (Raw n) (x ++ z)) (sym whole) raw);
      no_more = λ g. absurd (omega arith);
    })
    (λ l.
    let size : length (take n s) ≡ n = length-take-le n s (ltb-false (length s) n l) in
    let raw : Within room (Raw n) (take n s) = ((size, bytes_take n s b), omega arith) in
    simp l record {
      within = ltb-false (length s) n l;
      begun = ([], subst (Within room (Raw n)) (sym (append-nil (take n s))) raw);
      no_more = λ g w. omega (arith, w.1.0.0, length-append (take (suc n) s) w.0, length-take-le (suc n) s g);
    })

-- the sizes whose length is one byte
short_size : (b : ℕ) → has b (56 ∷ 64 ∷ 96 ∷ []) ≡ true → SignatureSize b × (b < 128)
unfolding has
short_size b h =
    ⊎_elim (λ e. at 56 n28 (omega arith) e)
    (λ h. ⊎_elim (λ e. at 64 n32 (omega arith) e)
    (λ h. ⊎_elim (λ e. at 96 n48 (omega arith) e) (λ h. absurd (not_true h)) (either_true _ _ h)) (either_true _ _ h)) (either_true _ _ h)
  where
    at : (n : ℕ) → SignatureSize n → n < 128 → eqb b n ≡ true → SignatureSize b × (b < 128)
    at n z l e = let same = eqb-true b n e in (subst SignatureSize (sym same) z, omega arith)

-- the sizes whose length is 81 and a byte
long_size : (b : ℕ) → has b (128 ∷ 132 ∷ []) ≡ true → SignatureSize b × (128 ≤ b)
unfolding has
long_size b h =
    ⊎_elim (λ e. at 128 n64 (omega arith) e)
    (λ h. ⊎_elim (λ e. at 132 n66 (omega arith) e) (λ h. absurd (not_true h)) (either_true _ _ h)) (either_true _ _ h)
  where
    at : (n : ℕ) → SignatureSize n → 128 ≤ n → eqb b n ≡ true → SignatureSize b × (128 ≤ b)
    at n z l e = let same = eqb-true b n e in (subst SignatureSize (sym same) z, omega arith)

-- a length that is chosen, with its bytes
sig_raw : (n : ℕ) → SignatureSize n → (x : List ℕ) → form n ≡ x → (t : List ℕ) → Sig (x ++ t) → Raw n t
sig_raw n z x e t s =
    let r = signature_range n z in
    let q = signature_range (length s.sig) s.size in
    let c = cut_form (length s.sig) n s.sig t (omega arith) (omega arith) (s.is ∙ ap (λ y. y ++ t) (sym e)) in
    (ap length (sym c.1) ∙ c.0, subst Bytes c.1 s.bytes)

-- how a signature's length begins
pub data Starts (b : ℕ) (t : List ℕ) : Type 0 where
  short : has b (56 ∷ 64 ∷ 96 ∷ []) ≡ true → b ≤ length t → Starts b t
  long : b ≡ 0x81 → has (get_or t 0 0) (128 ∷ 132 ∷ []) ≡ true → 129 ≤ length t → Starts b t

-- a length and a signature begin so
starts : (n : ℕ) → SignatureSize n → (sig : List ℕ) → length sig ≡ n → (b : ℕ) (t : List ℕ) → form n ++ sig ≡ b ∷ t → Starts b t
unfolding has
starts n z sig l b t e = go n z l e
  where
    one : (k : ℕ) → k < 128 → length sig ≡ k → has k (56 ∷ 64 ∷ 96 ∷ []) ≡ true → form k ++ sig ≡ b ∷ t → Starts b t
    one k h m q e =
        let f : k ∷ sig ≡ b ∷ t = ap (λ x. x ++ sig) (sym (form_short k h)) ∙ e in
        short (subst (λ x. has x (56 ∷ 64 ∷ 96 ∷ []) ≡ true) (head_is f) q) (omega (arith, head_is f, ap length (tail_is f)))

    two : (k : ℕ) → 128 ≤ k → k < 256 → length sig ≡ k → has k (128 ∷ 132 ∷ []) ≡ true → form k ++ sig ≡ b ∷ t → Starts b t
    two k g h m q e =
        let f : 0x81 ∷ k ∷ sig ≡ b ∷ t = ap (λ x. x ++ sig) (sym (form_one k g h)) ∙ e in
        let f' : k ∷ sig ≡ t = tail_is f in
        long (sym (head_is f)) (subst (λ x. has (get_or x 0 0) (128 ∷ 132 ∷ []) ≡ true) f' q) (omega (arith, ap length f'))

    go : (n : ℕ) → SignatureSize n → length sig ≡ n → form n ++ sig ≡ b ∷ t → Starts b t
    go n n28 l e = one 56 (omega arith) l refl e
    go n n32 l e = one 64 (omega arith) l refl e
    go n n48 l e = one 96 (omega arith) l refl e
    go n n64 l e = two 128 (omega arith) (omega arith) l refl e
    go n n66 l e = two 132 (omega arith) (omega arith) l refl e

-- and so does what stands behind FF
sig_starts : (b : ℕ) (t : List ℕ) → Sig (b ∷ t) → Starts b t
sig_starts b t s = starts (length s.sig) s.size s.sig refl b t s.is

-- behind FF and 81
abbrev LongSig : List ℕ → Type 0
LongSig t = Sig (0x81 ∷ t)

-- 81 is no length by itself, so a byte behind it says one, and 129 bytes stand there
long_starts : (t : List ℕ) → LongSig t → (has (get_or t 0 0) (128 ∷ 132 ∷ []) ≡ true) × (129 ≤ length t)
long_starts t s = go (sig_starts 0x81 t s)
  where
    go : Starts 0x81 t → (has (get_or t 0 0) (128 ∷ 132 ∷ []) ≡ true) × (129 ≤ length t)
    go (short h l) = absurd (omega (arith, (short_size 0x81 h).1))
    go (long e h l) = (h, l)

-- behind FF and 81: 80 and 128 bytes
long_cheapest : Cheapest LongSig 129
long_cheapest = record {
  all = λ t s. (long_starts t s).1;
  one = 128 ∷ zeros 128;
  is = raw_sig 128 n64 (0x81 ∷ 128 ∷ []) (form_one 128 (omega arith) (omega arith)) (zeros 128) (zeros_raw 128);
  size = omega (arith, zeros_length 128);
}

-- a last byte of a length, which leaves a signature of n bytes
chosen_is :
    (L : List ℕ → Type 0) (m : ℕ) → Cheapest L m →
    (n room : ℕ) (s : List ℕ) →
    ((t : List ℕ) → L (n ∷ t) → Raw n t) →
    ((t : List ℕ) → Raw n t → L (n ∷ t)) →
    Bytes s →
    m ≤ room →
    Longest (Within room L) (n ∷ s) (pick (ltb room (1 + n)) 0 (1 + any_front n s))
chosen_is L m c n room s to from b h =
    by_test (ltb room (1 + n))
    (λ l. simp l (stop room L m c h n s (λ t w. omega (arith, (to t w).0, ltb-true room (1 + n) l))))
    (λ l.
    let enough = ltb-false room (1 + n) l in
    simp l (step room L n (Raw n) to from (omega arith) s (any_front n s) (raw_is n (room - 1) s b (omega arith))))

-- `long_front` is the longest front part behind FF and 81
long_is : (room : ℕ) (s : List ℕ) → Bytes s → 129 ≤ room → Longest (Within room LongSig) s (long_front room s)
unfolding long_front
long_is room [] b h = end room LongSig 129 long_cheapest h
long_is room (x ∷ s) b h =
    by_test (has x (128 ∷ 132 ∷ []))
    (λ p.
    let z = long_size x p in
    let e = form_one x z.1 (b 0) in
    simp p (chosen_is LongSig 129 long_cheapest x room s (sig_raw x z.0 (0x81 ∷ x ∷ []) e) (raw_sig x z.0 (0x81 ∷ x ∷ []) e)
    (λ i. b (suc i)) h))
    (λ p. simp p (stop room LongSig 129 long_cheapest h x s (λ t w. absurd (not_both (long_starts (x ∷ t) w).0 p))))

-- `signature_front` is the longest front part behind FF
pub signature_is : (room : ℕ) (s : List ℕ) → Bytes s → 57 ≤ room → Longest (Within room Sig) s (signature_front room s)
unfolding signature_front
signature_is room [] b h = end room Sig 57 sig_cheapest h
signature_is room (x ∷ s) b h =
    by_test (has x (56 ∷ 64 ∷ 96 ∷ []))
    (λ p.
    let z = short_size x p in
    let e = form_short x z.1 in
    simp p (chosen_is Sig 57 sig_cheapest x room s (sig_raw x z.0 (x ∷ []) e) (raw_sig x z.0 (x ∷ []) e) (λ i. b (suc i)) h))
    (λ p. by_test (eqb x 0x81)
    (λ q.
    let e = eqb-true x 0x81 q in
    by_test (ltb room 130)
    (λ l. simp (p, q, l) (stop room Sig 57 sig_cheapest h x s
    (λ t w. omega (arith, ltb-true room 130 l, (long_starts t (subst (λ y. Sig (y ∷ t)) e w)).1))))
    (λ l.
    let enough = ltb-false room 130 l in
    simp (p, q, l) (step room Sig x LongSig (λ t w. subst (λ y. Sig (y ∷ t)) e w) (λ t w. subst (λ y. Sig (y ∷ t)) (sym e) w)
    (omega arith) s (long_front (room - 1) s) (long_is (room - 1) s (λ i. b (suc i)) (omega arith)))))
    (λ q. simp (p, q) (stop room Sig 57 sig_cheapest h x s (λ t w. absurd (no_other t (sig_starts x t w) p q)))))
  where
    no_other : (t : List ℕ) → Starts x t → has x (56 ∷ 64 ∷ 96 ∷ []) ≡ false → eqb x 0x81 ≡ false → ⊥
    no_other t (short h l) p q = not_both h p
    no_other t (long e h l) p q = not_both (eq-eqb x 0x81 e) q
