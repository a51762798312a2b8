-- Where a first byte opens, a second byte makes a pair with it that fits: it is near the first or the last of the 256,
-- whichever lies in the run of the pairs that fit.
-- Assumes nothing.
use Rattle.std.specs.Prelude.{◌≡◌, refl, ◌⊎◌, true, ℕ, ◌+◌, ◌*◌, ◌-◌, ◌<◌, ◌≤◌, ltb, leb, eqb}
use Rattle.std.proofs.Common.{◌∙◌, inr, ⊎_elim, leb-true, ltb-true, ltb-false, eqb-true}
use Rattle.std.proofs.Math.Logic.{inl}
use native.Mathlib.Omega.{arith}
use Rattle.std.proofs.Math.Nat.{div-div-eq-div-mul}
use Rattle.std.proofs.lemmas.Bool.{eqb-false}
use Rattle.format.specs.Choice.{both, within}
use Rattle.format.specs.Choice.Laws.{by_test, both_true, either_true, within_both}
use Rattle.pairs.specs.Pairs.{packed_of, number, first, second, third}
use Rattle.front_pairs.specs.Pairs.{place, starts_in, ends_in, leads, fits, opens}
use Rattle.front_pairs.specs.Pairs.Laws.{opens_values, place_values, several}
use Rattle.front_pairs.specs.Pairs.Laws.Kept.{Kept, made_fits, single_fits}
use Rattle.front_pairs.specs.declared.Kind.{Kind}
use Rattle.front_pairs.specs.declared.Kind.TheVariants.{Country, Signer, Triple, Length, Two, One}

-- a second byte with which the first fits
abbrev pub Some : Kind → ℕ → Type 0
Some kind x = (y : ℕ) × (y < 256) × (fits kind x y ≡ true)

-- one that makes three values that may stand there
some : (kind : Kind) (x y a b c : ℕ) → (kind ≡ One → ⊥) → a ≤ 39 → y < 256 → number x y ≡ packed_of a b c → b < 40 → c < 40 → Kept kind a b c
    → Some kind x
some kind x y a b c h ha hy e hb hc k =
    (y, hy, made_fits kind x y a b c h record { is = e; a_below = omega arith; b_below = hb; c_below = hc; values = k })

-- the three values of a number, and its place
record Of (n a b c : ℕ) : Type 0 where
  is : n ≡ packed_of a b c
  b_below : b < 40
  c_below : c < 40
  at : 40 * b + c ≡ place n

of : (n : ℕ) → 1 ≤ first n → Of n (first n) (second n) (third n)
of n h = record {
  is = omega (arith, div-div-eq-div-mul (n - 1) 40 40);
  b_below = omega arith;
  c_below = omega arith;
  at = omega (arith, place_values n);
}

-- near the first of the 256: it, or one a few places on
module _ (x a b c : ℕ) (n : Of (number x 0) a b c) (top : a ≤ 39) where
  low_signer : 14 ≤ a → 564 ≤ place (number x 0) → Some Signer x
  low_signer h g =
      by_test (ltb c 4)
      (λ t. let few = ltb-true c 4 t in
      some Signer x 4 a b (c + 4) (several Signer refl) top (omega arith) (omega (arith, n.is)) n.b_below (omega arith)
      (h, omega (arith, n.at), omega arith))
      (λ t. let enough = ltb-false c 4 t in
      some Signer x 0 a b c (several Signer refl) top (omega arith) n.is n.b_below n.c_below
      (h, omega (arith, n.at, n.c_below), enough))

  low_triple : 4 ≤ a → 164 ≤ place (number x 0) → Some Triple x
  low_triple h g =
      by_test (ltb c 4)
      (λ t. let few = ltb-true c 4 t in
      some Triple x 4 a b (c + 4) (several Triple refl) top (omega arith) (omega (arith, n.is)) n.b_below (omega arith)
      (h, omega (arith, n.at), omega arith))
      (λ t. let enough = ltb-false c 4 t in
      some Triple x 0 a b c (several Triple refl) top (omega arith) n.is n.b_below n.c_below
      (h, omega (arith, n.at, n.c_below), enough))

  -- the third value below the digits, a digit, and above them as far as the next forty is 12 or 24 away
  low_length : 4 ≤ a → 165 ≤ place (number x 0) → place (number x 0) ≤ 779 → Some Length x
  low_length h g k =
      by_test (ltb c 4)
      (λ t. let few = ltb-true c 4 t in
      some Length x 12 a b (c + 12) (several Length refl) top (omega arith) (omega (arith, n.is)) n.b_below (omega arith)
      (h, (omega (arith, n.at), omega (arith, n.at)), (omega arith, omega arith), omega (arith, n.at)))
      (λ t. let some_more = ltb-false c 4 t in
      by_test (ltb c 20)
      (λ u. let digit = ltb-true c 20 u in
      some Length x 0 a b c (several Length refl) top (omega arith) n.is n.b_below n.c_below
      (h, (omega (arith, n.at), omega (arith, n.at)), (some_more, omega arith), omega (arith, n.at)))
      (λ u. let many = ltb-false c 20 u in
      by_test (ltb c 32)
      (λ w. let below = ltb-true c 32 w in
      some Length x 24 a (b + 1) (c + 24 - 40) (several Length refl) top (omega arith) (omega (arith, n.is)) (omega (arith, n.at))
      (omega arith)
      (h, (omega (arith, n.at), omega (arith, n.at)), (omega arith, omega arith), omega (arith, n.at)))
      (λ w. let above = ltb-false c 32 w in
      some Length x 12 a (b + 1) (c + 12 - 40) (several Length refl) top (omega arith) (omega (arith, n.is)) (omega (arith, n.at))
      (omega (arith, n.c_below)) (
        h,
        (omega (arith, n.at, n.c_below), omega (arith, n.at)),
        (omega arith, omega (arith, n.c_below)),
        omega (arith, n.at, n.c_below),
      ))))

  -- the next forty
  low_two : 4 ≤ a → 160 ≤ place (number x 0) → place (number x 0) ≤ 1560 → Some Two x
  low_two h g k =
      by_test (eqb c 0)
      (λ t. let none = eqb-true c 0 t in
      some Two x 0 a b c (several Two refl) top (omega arith) n.is n.b_below n.c_below (h, omega (arith, n.at), none))
      (λ t. let off = eqb-false c 0 t in
      let more : 1 ≤ c = omega (arith, off) in
      some Two x (40 - c) a (b + 1) 0 (several Two refl) top (omega arith) (omega (arith, n.is, n.c_below)) (omega (arith, n.at))
      (omega arith) (h, omega (arith, n.at, n.c_below), refl))

  -- two fillers, where the first of the 256 lies before them or there
  low_filled : 14 ≤ a → place (number x 0) ≤ 123 → Some Country x
  low_filled h g =
      some Country x (123 - place (number x 0)) a 3 3 (several Country refl) top (omega arith) (omega (arith, n.is, n.at)) (omega arith)
      (omega arith) (h, inr (refl, refl))

  -- a filler or a letter, or 14 places on
  low_country : 14 ≤ a → 563 ≤ place (number x 0) → Some Country x
  low_country h g =
      let b_letter : 14 ≤ b = omega (arith, n.at, n.c_below) in
      by_test (ltb c 14)
      (λ t. let few = ltb-true c 14 t in
      by_test (eqb c 3)
      (λ u. some Country x 0 a b c (several Country refl) top (omega arith) n.is n.b_below n.c_below
      (h, inl (b_letter, inr (eqb-true c 3 u))))
      (λ u. some Country x 14 a b (c + 14) (several Country refl) top (omega arith) (omega (arith, n.is)) n.b_below (omega arith)
      (h, inl (b_letter, inl (omega arith)))))
      (λ t. let letter = ltb-false c 14 t in
      some Country x 0 a b c (several Country refl) top (omega arith) n.is n.b_below n.c_below (h, inl (b_letter, inl letter)))

-- near the last of the 256: it, or one a few places before
module _ (x a b c : ℕ) (n : Of (number x 255) a b c) (top : a ≤ 39) where
  high_signer : 14 ≤ a → 564 ≤ place (number x 255) → Some Signer x
  high_signer h g =
      by_test (ltb c 4)
      (λ t. let few = ltb-true c 4 t in
      some Signer x 251 a (b - 1) (c + 36) (several Signer refl) top (omega arith) (omega (arith, n.is, n.at)) (omega (arith, n.b_below))
      (omega arith) (h, omega (arith, n.at), omega arith))
      (λ t. let enough = ltb-false c 4 t in
      some Signer x 255 a b c (several Signer refl) top (omega arith) n.is n.b_below n.c_below
      (h, omega (arith, n.at, n.c_below), enough))

  high_triple : 4 ≤ a → 164 ≤ place (number x 255) → Some Triple x
  high_triple h g =
      by_test (ltb c 4)
      (λ t. let few = ltb-true c 4 t in
      some Triple x 251 a (b - 1) (c + 36) (several Triple refl) top (omega arith) (omega (arith, n.is, n.at)) (omega (arith, n.b_below))
      (omega arith) (h, omega (arith, n.at), omega arith))
      (λ t. let enough = ltb-false c 4 t in
      some Triple x 255 a b c (several Triple refl) top (omega arith) n.is n.b_below n.c_below
      (h, omega (arith, n.at, n.c_below), enough))

  high_length : 4 ≤ a → 165 ≤ place (number x 255) → place (number x 255) ≤ 779 → Some Length x
  high_length h g k =
      by_test (ltb c 4)
      (λ t. let few = ltb-true c 4 t in
      some Length x 231 a (b - 1) (c + 16) (several Length refl) top (omega arith) (omega (arith, n.is, n.at)) (omega (arith, n.b_below))
      (omega arith) (h, (omega (arith, n.at), omega (arith, n.at)), (omega arith, omega arith), omega (arith, n.at)))
      (λ t. let some_more = ltb-false c 4 t in
      by_test (ltb c 20)
      (λ u. let digit = ltb-true c 20 u in
      some Length x 255 a b c (several Length refl) top (omega arith) n.is n.b_below n.c_below
      (h, (omega (arith, n.at), omega (arith, n.at)), (some_more, omega arith), omega (arith, n.at)))
      (λ u. let many = ltb-false c 20 u in
      by_test (ltb c 32)
      (λ w. let below = ltb-true c 32 w in
      some Length x 243 a b (c - 12) (several Length refl) top (omega arith) (omega (arith, n.is)) n.b_below (omega arith)
      (h, (omega (arith, n.at), omega (arith, n.at)), (omega arith, omega arith), omega (arith, n.at)))
      (λ w. let above = ltb-false c 32 w in
      some Length x 231 a b (c - 24) (several Length refl) top (omega arith) (omega (arith, n.is)) n.b_below
      (omega (arith, n.c_below)) (
        h,
        (omega (arith, n.at, n.c_below), omega (arith, n.at)),
        (omega arith, omega (arith, n.c_below)),
        omega (arith, n.at, n.c_below),
      ))))

  high_two : 4 ≤ a → 160 ≤ place (number x 255) → Some Two x
  high_two h g =
      some Two x (255 - c) a b 0 (several Two refl) top (omega arith) (omega (arith, n.is, n.c_below)) n.b_below (omega arith)
      (h, omega (arith, n.at, n.c_below), refl)

  high_filled : 14 ≤ a → 123 ≤ place (number x 255) → place (number x 255) ≤ 378 → Some Country x
  high_filled h g k =
      some Country x (378 - place (number x 255)) a 3 3 (several Country refl) top (omega arith) (omega (arith, n.is, n.at)) (omega arith)
      (omega arith) (h, inr (refl, refl))

  -- it, or 14 places before. A digit behind the letter A is never the last of the 256, whose number leaves 63 by 64
  high_country : 14 ≤ a → 563 ≤ place (number x 255) → Some Country x
  high_country h g =
      let b_letter : 14 ≤ b = omega (arith, n.at, n.c_below) in
      by_test (ltb c 14)
      (λ t. let few = ltb-true c 14 t in
      by_test (eqb c 3)
      (λ u. some Country x 255 a b c (several Country refl) top (omega arith) n.is n.b_below n.c_below
      (h, inl (b_letter, inr (eqb-true c 3 u))))
      (λ u. let off = eqb-false c 3 u in
      let later : 15 ≤ b = never n.is b_letter few off n.at in
      some Country x 241 a (b - 1) (c + 26) (several Country refl) top (omega arith) (omega (arith, n.is)) (omega (arith, n.b_below))
      (omega arith) (h, inl (omega arith, inl (omega arith)))))
      (λ t. let letter = ltb-false c 14 t in
      some Country x 255 a b c (several Country refl) top (omega arith) n.is n.b_below n.c_below (h, inl (b_letter, inl letter)))
    where
      never : number x 255 ≡ packed_of a b c → 14 ≤ b → c < 14 → (c ≡ 3 → ⊥) → 40 * b + c ≡ place (number x 255) → 15 ≤ b
      never e hb hc off o = by_test (ltb 14 b) (λ t. ltb-true 14 b t) (λ t. let k = ltb-false 14 b t in absurd (omega (arith, off)))

-- a first byte that opens: the first of its numbers lies right, or the last does
ends : (kind : Kind) (x : ℕ)
    → (kind ≡ One → ⊥)
    → opens kind x ≡ true
    → let low = number x 0 in
    let high = number x 255 in
    ((leads kind (first low) ≡ true) × (starts_in kind (place low) ≡ true))
    ⊎ ((leads kind (first high) ≡ true) × (ends_in kind (place high) ≡ true))
ends kind x h e =
    let low = number x 0 in
    let high = number x 255 in
    let p = leads kind (first low) in
    let q = starts_in kind (place low) in
    let r = leads kind (first high) in
    let s = ends_in kind (place high) in
    ⊎_elim (λ t. inl (both_true p q t)) (λ t. inr (both_true r s t)) (either_true (both p q) (both r s) (opens_values kind x h ∙ e))

module _ (x : ℕ) where
  abbrev low : ℕ
  low = number x 0

  abbrev high : ℕ
  high = number x 255

  signer_some : opens Signer x ≡ true → Some Signer x
  signer_some e =
      ⊎_elim
      (λ t. let a = within_both 14 39 (first low) t.0 in
      low_signer x _ _ _ (of low (omega arith)) a.1 a.0 (leb-true 564 (place low) t.1))
      (λ t. let a = within_both 14 39 (first high) t.0 in
      high_signer x _ _ _ (of high (omega arith)) a.1 a.0 (leb-true 564 (place high) t.1))
      (ends Signer x (several Signer refl) e)

  triple_some : opens Triple x ≡ true → Some Triple x
  triple_some e =
      ⊎_elim
      (λ t. let a = within_both 4 39 (first low) t.0 in
      low_triple x _ _ _ (of low (omega arith)) a.1 a.0 (leb-true 164 (place low) t.1))
      (λ t. let a = within_both 4 39 (first high) t.0 in
      high_triple x _ _ _ (of high (omega arith)) a.1 a.0 (leb-true 164 (place high) t.1))
      (ends Triple x (several Triple refl) e)

  length_some : opens Length x ≡ true → Some Length x
  length_some e =
      ⊎_elim
      (λ t. let a = within_both 4 39 (first low) t.0 in
      let o = within_both 165 779 (place low) t.1 in
      low_length x _ _ _ (of low (omega arith)) a.1 a.0 o.0 o.1)
      (λ t. let a = within_both 4 39 (first high) t.0 in
      let o = within_both 165 779 (place high) t.1 in
      high_length x _ _ _ (of high (omega arith)) a.1 a.0 o.0 o.1)
      (ends Length x (several Length refl) e)

  two_some : opens Two x ≡ true → Some Two x
  two_some e =
      ⊎_elim
      (λ t. let a = within_both 4 39 (first low) t.0 in
      let o = within_both 160 1560 (place low) t.1 in
      low_two x _ _ _ (of low (omega arith)) a.1 a.0 o.0 o.1)
      (λ t. let a = within_both 4 39 (first high) t.0 in
      let o = within_both 160 1560 (place high) t.1 in
      high_two x _ _ _ (of high (omega arith)) a.1 a.0 o.0)
      (ends Two x (several Two refl) e)

  country_low : leads Country (first low) ≡ true → starts_in Country (place low) ≡ true → Some Country x
  country_low h t =
      let a = within_both 14 39 (first low) h in
      let v = of low (omega arith) in
      ⊎_elim (λ o. low_filled x _ _ _ v a.1 a.0 (leb-true (place low) 123 o))
      (λ o. low_country x _ _ _ v a.1 a.0 (leb-true 563 (place low) o))
      (either_true (leb (place low) 123) (leb 563 (place low)) t)

  country_high : leads Country (first high) ≡ true → ends_in Country (place high) ≡ true → Some Country x
  country_high h t =
      let a = within_both 14 39 (first high) h in
      let v = of high (omega arith) in
      ⊎_elim (λ o. let w = within_both 123 378 (place high) o in high_filled x _ _ _ v a.1 a.0 w.0 w.1)
      (λ o. high_country x _ _ _ v a.1 a.0 (leb-true 563 (place high) o))
      (either_true (within 123 378 (place high)) (leb 563 (place high)) t)

  country_some : opens Country x ≡ true → Some Country x
  country_some e = ⊎_elim (λ t. country_low t.0 t.1) (λ t. country_high t.0 t.1) (ends Country x (several Country refl) e)

  -- FE and the code of 0 plus 1
  one_some : opens One x ≡ true → Some One x
  unfolding opens
  one_some e = (49, omega arith, single_fits x 49 (eqb-true x 0xFE e, inl (omega arith, omega arith)))

-- a first byte that opens begins a pair that fits
pub opens_some : (kind : Kind) (x : ℕ) → x < 256 → opens kind x ≡ true → (y : ℕ) × (y < 256) × (fits kind x y ≡ true)
opens_some Country x h e = country_some x e
opens_some Signer x h e = signer_some x e
opens_some Triple x h e = triple_some x e
opens_some Length x h e = length_some x e
opens_some Two x h e = two_some x e
opens_some One x h e = one_some x e

-- there is a pair of each kind: AAA, A01, AA and A
pub one_fits : (kind : Kind) → (x : ℕ) × (y : ℕ) × (x < 256) × (y < 256) × (fits kind x y ≡ true)
unfolding fits
one_fits Country = (0x59, 0xBF, omega arith, omega arith, refl)
one_fits Signer = (0x59, 0xBF, omega arith, omega arith, refl)
one_fits Triple = (0x59, 0xBF, omega arith, omega arith, refl)
one_fits Length = (0x58, 0x26, omega arith, omega arith, refl)
one_fits Two = (0x59, 0xB1, omega arith, omega arith, refl)
one_fits One = (0xFE, 66, omega arith, omega arith, refl)
