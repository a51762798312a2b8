-- The pairs that fit as the signer's last character and a length are exactly their published forms, and the length is the one that the
-- pair's two digits give.
-- Assumes nothing.
use Rattle.std.specs.Prelude.{◌≡◌, refl, ℕ, ◌+◌, ◌*◌, ◌-◌, ◌/◌, ◌%◌, ◌<◌, ◌≤◌}
use Rattle.std.proofs.Common.{sym, subst, ◌∙◌, arith}
use Rattle.format.specs.Hex.{hex_digit}
use Rattle.pairs.specs.Chart.{value_of}
use Rattle.pairs.specs.Chart.Laws.{value_range}
use Rattle.pairs.specs.Pairs.{triple, number, first, second, third}
use Rattle.grammar.specs.Legal.{LetterOrDigit}
use Rattle.front_pairs.specs.Pairs.{length_in}
use Rattle.front_pairs.specs.Pairs.Laws.{several}
use Rattle.front_pairs.specs.Pairs.Laws.Kept.{fits_made}
use Rattle.front_pairs.specs.declared.Kind.TheVariants as kind
use Rattle.front.specs.Items.{Counted, counted_item}
use Rattle.front_header.specs.Header.Parts.{value_hex}
use Rattle.front_header.specs.Pairs.{Pair}
use Rattle.front_header.specs.Pairs.Items.{Sound, Complete}
use Rattle.front_header.specs.Pairs.Values.{With, either_with, either_value, triple_pair, form_three, form_with}

-- the length by two values
module _ (b c L : ℕ) (low : 4 ≤ b) (high : b ≤ 19) (low' : 4 ≤ c) (high' : c ≤ 19) (e : L ≡ 16 * (b - 4) + (c - 4)) where
  sixteens : L / 16 + 4 ≡ b
  sixteens = omega arith

  ones : L % 16 + 4 ≡ c
  ones = omega arith

  length_most : L ≤ 255
  length_most = omega arith

  length_some : 8 < b + c → 1 ≤ L
  length_some h = omega arith

-- a pair that fits is the form of a character and of the length that its digits give
pub counted_sound : Sound kind.Length Counted counted_item
counted_sound x y hx hy e =
    let n = number x y in
    let m = fits_made kind.Length x y (several kind.Length refl) e in
    let v = m.values in
    let L = length_in x y in
    let p = either_with (first n) v.0 m.a_below in
    let s = sixteens (second n) (third n) L v.1.0 v.1.1 v.2.0 v.2.1 refl in
    let o = ones (second n) (third n) L v.1.0 v.1.1 v.2.0 v.2.1 refl in
    let most = length_most (second n) (third n) L v.1.0 v.1.1 v.2.0 v.2.1 refl in
    let least = length_some (second n) (third n) L v.1.0 v.1.1 v.2.0 v.2.1 refl v.3 in
    let q : With (λ c. Unit) (second n) =
    record { c = hex_digit (L / 16); legal = tt; is = value_hex (L / 16) (omega (arith, most)) ∙ s } in
    let r : With (λ c. Unit) (third n) =
    record { c = hex_digit (L % 16); legal = tt; is = value_hex (L % 16) (omega arith) ∙ o } in
    ((p.c, L), (p.legal, least, most), form_with LetterOrDigit (λ c. Unit) (λ c. Unit) _ _ _ x y p q r hx hy m.is)

-- the form of a character and a length, by three values
counted_form : (v : ℕ × ℕ) → Counted v → counted_item v ≡ triple (value_of v.0) (v.1 / 16 + 4) (v.1 % 16 + 4)
counted_form v l =
    let s = value_hex (v.1 / 16) (omega (arith, l.2)) in
    let o = value_hex (v.1 % 16) (omega arith) in
    form_three v.0 (hex_digit (v.1 / 16)) (hex_digit (v.1 % 16)) ∙ (λ i. triple (value_of v.0) (s i) (o i))

pub counted_complete : Complete kind.Length Counted counted_item
counted_complete v l =
    subst (Pair kind.Length) (sym (counted_form v l))
    (triple_pair kind.Length (value_of v.0) (v.1 / 16 + 4) (v.1 % 16 + 4) (several kind.Length refl) (value_range v.0).1
    (omega (arith, l.2)) (omega arith)
    (either_value v.0 l.0, (omega arith, omega (arith, l.2)), (omega arith, omega arith), omega (arith, l.1)))
