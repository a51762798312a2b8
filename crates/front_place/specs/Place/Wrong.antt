-- A pair of C40 with which well coded text goes on is not wrongly coded.
-- Assumes nothing.
use Rattle.std.specs.Prelude.{◌≡◌, Bool, List, ◌++◌, ℕ, ◌+◌, ◌%◌, ◌≤◌, ◌<◌, eqb, length, take, drop, get_or}
use Rattle.std.proofs.Common.{sym, ap, ◌∙◌, subst, inl, inr, ⊎_elim, arith, take-take, take_at, get_or-take}
use Rattle.std.proofs.lemmas.List.{take-append-le}
use Rattle.pairs.specs.Chart.{the_chart}
use Rattle.pairs.specs.Pairs.{pair_of, chars_of}
use Rattle.pairs.specs.Faults.{Has}
use Rattle.c40.specs.Text.{TextOf, width, publish as c40}
use Rattle.c40.specs.Text.Laws.{length_publish}
use Rattle.c40.proofs.Exact.{published_decodes}
use Rattle.c40.proofs.Decode.First.{text_faultless, text_size}
use Rattle.c40.proofs.Wrong.{WronglyCoded, FirstWrong}
use Rattle.front_place.specs.Place.Kept.{Ahead, part, Whole}

-- no pair of a published text is wrongly coded
none_wrong : (k : ℕ) (u : List ℕ) → TextOf k u → (i : ℕ) → i % 2 ≡ 0 → i + 2 ≤ length (c40 u) → WronglyCoded k (c40 u) i → ⊥
none_wrong k u l i even inside w =
    let d = published_decodes u l.1 0 in
    ⊎_elim (λ f. text_faultless (c40 u) 0 u d i even inside f.0 f.1)
    (λ n. n.1 (omega (arith, text_size (c40 u) 0 i u even n.0 d, l.0)))
    w

-- what is wrong goes by the pair and by how many bytes there are
wrong_as :
    (k : ℕ) (x y : List ℕ) (i : ℕ) →
    length x ≡ length y →
    get_or x i 0 ≡ get_or y i 0 →
    get_or x (i + 1) 0 ≡ get_or y (i + 1) 0 →
    WronglyCoded k x i →
    WronglyCoded k y i
wrong_as k x y i size first second w =
    ⊎_elim
    (λ f. inl (
      f.0,
      subst (λ (n : ℕ). Has f.0 (eqb (i + 2) n) (get_or y i 0) (get_or y (i + 1) 0)) size
          (subst (λ (b : ℕ). Has f.0 (eqb (i + 2) (length x)) (get_or y i 0) b) second
          (subst (λ (a : ℕ). Has f.0 (eqb (i + 2) (length x)) a (get_or x (i + 1) 0)) first f.1)),
    ))
    (λ n. inr (
      n.0 ∙ size,
      λ e. n.1 (
          ap (λ (a : ℕ). length (chars_of (pair_of the_chart Bool.true a (get_or x (i + 1) 0)))) first
          ∙ ap (λ (b : ℕ). length (chars_of (pair_of the_chart Bool.true (get_or y i 0) b))) second
          ∙ e
          ),
    ))
    w

-- the first wrongly coded pair, where bytes for the text are there, is no pair of text that goes on with it
pub not_wrong :
    (s : List ℕ) (p k i : ℕ) (P : List ℕ → Type 0) →
    Whole s p (width k) →
    FirstWrong k (part s p (width k)) i →
    Whole s p (i + 2) →
    (r : List ℕ) →
    Ahead k P (part s p (i + 2) ++ r) →
    ⊥
not_wrong s p k i P whole f h r y =
    let x = part s p (width k) in
    let u = y.text in
    let inside = f.inside in
    let size : length (c40 u) ≡ width k = length_publish u ∙ ap width y.legal.0 in
    let left : take (i + 2) (c40 u ++ y.rest) ≡ take (i + 2) (c40 u) = take-append-le (i + 2) (c40 u) y.rest (omega arith) in
    let right : take (i + 2) (part s p (i + 2) ++ r) ≡ part s p (i + 2) = take_at (part s p (i + 2)) r (i + 2) h in
    let input : take (i + 2) x ≡ part s p (i + 2) = take-take (i + 2) (width k) (drop p s) (omega arith) in
    let same : take (i + 2) x ≡ take (i + 2) (c40 u) = input ∙ sym right ∙ ap (take (i + 2)) (sym y.is) ∙ left in
    let at : (j : ℕ) → j < i + 2 → get_or x j 0 ≡ get_or (c40 u) j 0 =
    λ j g. sym (get_or-take (i + 2) x j 0 g) ∙ ap (λ (z : List ℕ). get_or z j 0) same ∙ get_or-take (i + 2) (c40 u) j 0 g in
    none_wrong k u y.legal i f.even (omega arith)
    (wrong_as k x (c40 u) i (whole ∙ sym size) (at i (omega arith)) (at (i + 1) (omega arith)) f.here)
