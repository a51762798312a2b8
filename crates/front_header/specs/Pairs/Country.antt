-- The pairs that fit as a country are exactly the published forms of countries.
-- Assumes nothing.
use Rattle.std.specs.Prelude.{◌≡◌, refl, ◌⊎◌, ℕ, zero, suc, ◌+◌, ◌<◌, ◌≤◌, List, [], ◌∷◌, get_or}
use Rattle.std.proofs.Common.{sym, ap, subst, ◌∙◌, inl, inr, ⊎_elim, arith}
use Rattle.format.specs.Bytes.Laws.{all_at}
use Rattle.pairs.specs.Chart.{value_of}
use Rattle.pairs.specs.Pairs.{packed_of, triple, number, first, second, third}
use Rattle.grammar.specs.Legal.{Letter, Filler, Country}
use Rattle.grammar.specs.Publish.{carried}
use Rattle.front_pairs.specs.Pairs.Laws.{several}
use Rattle.front_pairs.specs.Pairs.Laws.Kept.{fits_made}
use Rattle.front_pairs.specs.declared.Kind.TheVariants as kind
use Rattle.front.specs.Items.{country_item}
use Rattle.front_header.specs.Header.Parts.{three_listed}
use Rattle.front_header.specs.Pairs.{Pair}
use Rattle.front_header.specs.Pairs.Items.{Sound, Complete}
use Rattle.front_header.specs.Pairs.Values.{letter_with, letter_value, letter_carried, filler_carried, triple_bytes, form_three}
use Rattle.front_header.specs.Pairs.Values.{three_pair}

-- a character that is carried with a value
record Carried (P : ℕ → Type 0) (v : ℕ) : Type 0 where
  c : ℕ
  legal : P c
  is : value_of (carried c) ≡ v

letter : (v : ℕ) → 14 ≤ v → v < 40 → Carried Letter v
letter v h k =
    let w = letter_with v h k in
    record { c = w.c; legal = w.legal; is = ap value_of (letter_carried w.c w.legal) ∙ w.is }

filler : (v : ℕ) → v ≡ 3 → Carried Filler v
filler v e = record { c = 60; legal = refl; is = filler_carried 60 refl ∙ sym e }

-- a country of three characters that are carried with these values
module _ (x y : ℕ) (hx : x < 256) (hy : y < 256) (a b c : ℕ) (e : number x y ≡ packed_of a b c) (p : Carried Letter a) where
  abbrev Found : Type 0
  Found = (t : List ℕ) × Country t × (country_item t ≡ x ∷ y ∷ [])

  found : (Q R : ℕ → Type 0) (q : Carried Q b) (r : Carried R c)
      → ((d : ℕ) → Q d → Letter d ⊎ Filler d)
      → ((d : ℕ) → R d → Letter d ⊎ Filler d)
      → (Filler q.c → Filler r.c)
      → Found
  found Q R q r allowed allowed' filled =
      let t = p.c ∷ q.c ∷ r.c ∷ [] in (
        t,
        record {
          size = refl;
          letters = (inl p.legal, (allowed q.c q.legal, (allowed' r.c r.legal, tt)));
          first = p.legal;
          filled = follows;
        },
        form_three (carried p.c) (carried q.c) (carried r.c) ∙ (λ i. triple (p.is i) (q.is i) (r.is i))
            ∙ triple_bytes a b c x y hx hy e,
      )
    where
      follows : let t = p.c ∷ q.c ∷ r.c ∷ [] in (i : ℕ) → i < 2 → Filler (get_or t i 0) → Filler (get_or t (i + 1) 0)
      follows zero h f = absurd (omega (arith, p.legal))
      follows (suc zero) h f = filled f
      follows (suc (suc i)) h f = absurd (omega arith)

pub country_sound : Sound kind.Country Country country_item
country_sound x y hx hy e =
    let n = number x y in
    let m = fits_made kind.Country x y (several kind.Country refl) e in
    let p = letter (first n) m.values.0 m.a_below in
    let make = found x y hx hy (first n) (second n) (third n) m.is p in
    ⊎_elim
    (λ l. let q = letter (second n) l.0 m.b_below in
    ⊎_elim
    (λ k. let r = letter (third n) k m.c_below in
    make Letter Letter q r (λ d. inl) (λ d. inl) (λ f. absurd (omega (arith, q.legal))))
    (λ k. let r = filler (third n) k in
    make Letter Filler q r (λ d. inl) (λ d. inr) (λ f. r.legal))
    l.1)
    (λ l. let q = filler (second n) l.0 in
    let r = filler (third n) l.1 in
    make Filler Filler q r (λ d. inr) (λ d. inr) (λ f. r.legal))
    m.values.1

-- a letter's value as it is carried
carried_letter : (c : ℕ) → Letter c → 14 ≤ value_of (carried c)
carried_letter c h = subst (λ d. 14 ≤ value_of d) (sym (letter_carried c h)) (letter_value c h)

pub country_complete : Complete kind.Country Country country_item
country_complete t l =
    subst (λ u. Pair kind.Country (country_item u)) (sym (three_listed t l.size))
    (three_pair kind.Country (carried (get_or t 0 0)) (carried (get_or t 1 0)) (carried (get_or t 2 0)) (several kind.Country refl) (
      carried_letter (get_or t 0 0) l.first,
      ⊎_elim (λ h. inl (carried_letter (get_or t 1 0) h, last)) (λ h. inr (filled h)) (allowed 1 (omega arith)),
    ))
  where
    allowed : (i : ℕ) → i < 3 → Letter (get_or t i 0) ⊎ Filler (get_or t i 0)
    allowed i h = all_at (λ c. Letter c ⊎ Filler c) 0 t l.letters i (omega (arith, l.size))

    last : (14 ≤ value_of (carried (get_or t 2 0))) ⊎ (value_of (carried (get_or t 2 0)) ≡ 3)
    last = ⊎_elim (λ h. inl (carried_letter (get_or t 2 0) h)) (λ h. inr (filler_carried (get_or t 2 0) h)) (allowed 2 (omega arith))

    filled : Filler (get_or t 1 0) → (value_of (carried (get_or t 1 0)) ≡ 3) × (value_of (carried (get_or t 2 0)) ≡ 3)
    filled h = (filler_carried (get_or t 1 0) h, filler_carried (get_or t 2 0) (l.filled 1 (omega arith) h))
