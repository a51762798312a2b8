-- Laws of the sizes: the form and the width of a length, and the sum part by part, up to one past 4,096.
-- Assumes nothing.
use Rattle.std.specs.Prelude.{◌≡◌, refl, ℕ, ◌+◌, ◌*◌, ◌/◌, ◌<◌, ◌≤◌, min, List, [], ◌∷◌, length}
use Rattle.std.proofs.Common.{ap, sym, ◌∙◌, arith}
use Rattle.der.specs.Length.{written}
use Rattle.der.proofs.Lengths.Written.{written_form, written_some}
use Rattle.grammar.specs.Publish.{length_of}
use Rattle.rows.specs.declared.Row.{Row}
use Rattle.grammar.specs.Content.{Version, three, four}
use Rattle.write_size.specs.SealSize.{rows_size, names_size}

-- the forms of a length up to 4,096, and how many bytes they take
module _ (v : Version) (n : ℕ) where
  pub length_plain : v ≡ three → length_of v n ≡ n ∷ []
  length_plain e = ap (λ w. length_of w n) e

  pub length_der : v ≡ four → n ≤ 4096 → written n ≡ length_of v n
  length_der e h = written_form n (omega arith) ∙ sym (ap (λ w. length_of w n) e)

  pub width_three : v ≡ three → 1 ≡ length (length_of v n)
  width_three e = sym (ap length (length_plain e))

  pub width_four : v ≡ four → n ≤ 4096 → length (written n) ≡ length (length_of v n)
  width_four e h = ap length (length_der e h)

size_none : (v : Version) → rows_size v [] ≡ 0
unfolding rows_size
size_none v = refl

size_cons :
    (v : Version) (r : Row) (rows : List Row) →
    rows_size v (r ∷ rows) ≡ 1 + length (length_of v r.size) + r.size + rows_size v rows
unfolding rows_size
size_cons v r rows = refl

-- how far the sum has come, with these rows left
pub record Summed (v : Version) (rows : List Row) (start total : ℕ) (left : List Row) : Type 0 where
  pub small : total ≤ 4096
  pub same : start + rows_size v rows ≡ total + rows_size v left

pub summed_start : (v : Version) (rows : List Row) (start : ℕ) → start ≤ 4096 → Summed v rows start start rows
summed_start v rows start h = record { small = h; same = refl }

module _ (v : Version) (rows : List Row) (start total : ℕ) (left : List Row) (s : Summed v rows start total left) where
  pub summed_end : left ≡ [] → total ≡ min (start + rows_size v rows) 4097
  summed_end none = let e = ap (rows_size v) none ∙ size_none v in omega (arith, s.same, s.small)

  -- the first of the rows left
  module _ (r : Row) (more : List Row) (first : left ≡ r ∷ more) where
    on : rows_size v left ≡ 1 + length (length_of v r.size) + r.size + rows_size v more
    on = ap (rows_size v) first ∙ size_cons v r more

    pub summed_great : 4096 < r.size → 4097 ≡ min (start + rows_size v rows) 4097
    summed_great h = omega (arith, s.same, on)

    module _ (k : ℕ) (w : k ≡ length (length_of v r.size)) where
      pub summed_past : 4096 < total + (1 + k + r.size) → 4097 ≡ min (start + rows_size v rows) 4097
      summed_past h = omega (arith, s.same, on, w)

      pub summed_more : total + (1 + k + r.size) ≤ 4096 → Summed v rows start (total + (1 + k + r.size)) more
      summed_more h = record { small = h; same = omega (arith, s.same, on, w) }

-- the width of a length is small
pub width_small : (v : Version) (n : ℕ) → n ≤ 4096 → length (length_of v n) ≤ 3
width_small three n h = omega arith
width_small four n h = omega (arith, width_four four n refl h, (written_some n (omega arith)).1)

-- signer and reference, by version; past 4,096 it is enough that they are past it
module _ (v : Version) (text : ℕ) where
  pub names_plain : v ≡ three → (min 6 4097 ≡ min (names_size v text) 4097) × (6 ≤ 4098)
  names_plain e = (sym (ap (λ w. min (names_size w text) 4097) e), omega arith)

  module _ (e : v ≡ four) where
    long : names_size v text ≡ (text + 4) / 3 * 2
    long = ap (λ w. names_size w text) e

    pub names_past : 6144 < text → (min 4097 4097 ≡ min (names_size v text) 4097) × (4097 ≤ 4098)
    names_past h = (omega (arith, long), omega arith)

    pub names_long :
        text ≤ 6144 →
        (k : ℕ) →
        k ≡ (text + 4) / 3 →
        (min (k * 2) 4097 ≡ min (names_size v text) 4097) × (k * 2 ≤ 4098)
    names_long h k is = (omega (arith, long), omega arith)
