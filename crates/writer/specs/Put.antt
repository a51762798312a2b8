-- Laws of the parts put down: a date, a length, a feature, the features of the rows.
-- Assumes nothing.
use Rattle.std.specs.Prelude.{◌≡◌, refl, ℕ, ◌+◌, ◌/◌, ◌%◌, ◌<◌, ◌≤◌, List, [], ◌∷◌, ◌++◌, map, length, take, drop, set}
use Rattle.std.proofs.Common.{ap, sym, subst, ◌∙◌, arith, append_assoc, append-nil, length-append, length-drop, length-set, length-take-le}
use Rattle.format.specs.Bytes.{All}
use Rattle.format.specs.BigEndian.{be}
use Rattle.format.specs.Buffer.{over}
use Rattle.format.proofs.Buffer.Laws.{over_none, length_over, over_over, set_over, over_two, over_three}
use Rattle.dates.specs.Days.{number_of, publish as date}
use Rattle.dates.specs.declared.Date.{Date}
use Rattle.grammar.specs.Content.{Version}
use Rattle.grammar.specs.Legal.{ValueSize}
use Rattle.grammar.specs.Publish.{length_of, feature, message_zone}
use Rattle.verdict.specs.Report.{feature_of}
use Rattle.rows.specs.declared.Row.{Row}
use Rattle.rows.specs.Rows.{rows_of}
use Rattle.write_judge.specs.Needs.{Room, Measured, Fits, Fitting}
use Rattle.write_judge.specs.Size.{zone_none, zone_cons}

-- three bytes of a date, each the last of a quotient of its number
pub put_date :
    (d : Date) (x y z : ℕ) (out : List ℕ) (at : ℕ) →
    x ≡ number_of d / 65536 % 256 →
    y ≡ number_of d / 256 % 256 →
    z ≡ number_of d % 256 →
    at + 3 ≤ length out →
    set (set (set out at x) (at + 1) y) (at + 2) z ≡ over out at (date d)
unfolding date be
put_date d x y z out at high middle low room =
    let twice : number_of d / 65536 ≡ number_of d / 256 / 256 = omega arith in
    over_three out at x y z room ∙ (λ i. over out at ((high ∙ ap (λ k. k % 256) twice) i ∷ middle i ∷ low i ∷ []))

-- one, two or three stores of a form
pub put_one :
    (out : List ℕ) (at x : ℕ) (bytes : List ℕ) →
    bytes ≡ x ∷ [] →
    Room out at bytes →
    (at + 1 ≡ at + length bytes) × (set out at x ≡ over out at bytes)
put_one out at x bytes e room = let n = ap length e in (omega arith, set_over out at x (omega arith) ∙ ap (over out at) (sym e))

pub put_two :
    (out : List ℕ) (at x y : ℕ) (bytes : List ℕ) →
    bytes ≡ x ∷ y ∷ [] →
    Room out at bytes →
    (at + 2 ≡ at + length bytes) × (set (set out at x) (at + 1) y ≡ over out at bytes)
put_two out at x y bytes e room = let n = ap length e in (omega arith, over_two out at x y (omega arith) ∙ ap (over out at) (sym e))

pub put_three :
    (out : List ℕ) (at x y z : ℕ) (bytes : List ℕ) →
    bytes ≡ x ∷ y ∷ z ∷ [] →
    Room out at bytes →
    (at + 3 ≡ at + length bytes) × (set (set (set out at x) (at + 1) y) (at + 2) z ≡ over out at bytes)
put_three out at x y z bytes e room = let n = ap length e in (omega arith, over_three out at x y z (omega arith) ∙ ap (over out at) (sym e))

-- a feature: its tag, its length, its value
length_feature :
    (v : Version) (tag : ℕ) (value : List ℕ) →
    length (feature v (record { tag = tag; value = value })) ≡ 1 + length (length_of v (length value)) + length value
length_feature v tag value = omega (arith, length-append (length_of v (length value)) value)

module _ (v : Version) (tag : ℕ) (value out : List ℕ) (at : ℕ) (room : Room out at (feature v (record { tag = tag; value = value }))) where
  pub feature_room : Room (set out at tag) (at + 1) (length_of v (length value))
  feature_room = omega (arith, length_feature v tag value, length-set out at tag)

  module _ (out1 : List ℕ) (next : ℕ) (reach : next ≡ at + 1 + length (length_of v (length value)))
      (first : out1 ≡ over (set out at tag) (at + 1) (length_of v (length value))) where
    tag_form : out1 ≡ over out at (tag ∷ length_of v (length value))
    tag_form =
        let form = length_of v (length value) in
        first ∙ ap (λ o. over o (at + 1) form) (set_over out at tag (omega (arith, length_feature v tag value)))
        ∙ over_over out at (tag ∷ []) form (omega (arith, length_feature v tag value))

    -- there is room for the value
    pub value_room : Room out1 next value
    value_room =
        let long = length_feature v tag value in
        let same : length out1 ≡ length out = ap length tag_form ∙ length_over out at (tag ∷ length_of v (length value)) (omega arith) in
        omega arith

    pub put_feature :
        (end : ℕ) (out2 : List ℕ) →
        end ≡ next + length value →
        out2 ≡ over out1 next value →
        (end ≡ at + length (feature v (record { tag = tag; value = value })))
        × (out2 ≡ over out at (feature v (record { tag = tag; value = value })))
    put_feature end out2 e2 o2 =
        let form = length_of v (length value) in
        let long = length_feature v tag value in
        let sum : next ≡ at + length (tag ∷ form) = omega arith in (
          omega arith,
          o2
              ∙ ap (λ o. over o next value) tag_form
              ∙ ap (λ k. over (over out at (tag ∷ form)) k value) sum
              ∙ over_over out at (tag ∷ form) value (omega arith),
        )

-- how far the features are put down, with these rows left
pub record Putting (version : Version) (values t out₀ : List ℕ) (start : ℕ) (out : List ℕ) (at : ℕ) (left : List Row) : Type 0 where
  pub before : List ℕ
  pub reached : at ≡ start + length before
  pub is : out ≡ over out₀ start before
  pub whole :
      message_zone version (map (feature_of values) (rows_of t)) ≡ before ++ message_zone version (map (feature_of values) left)
  pub fits : Fitting version (length values) left
  pub room : Room out₀ start (message_zone version (map (feature_of values) (rows_of t)))

pub putting_start :
    (version : Version) (values t out : List ℕ) (start : ℕ) →
    Fitting version (length values) (rows_of t) →
    Room out start (message_zone version (map (feature_of values) (rows_of t))) →
    Putting version values t out start out start (rows_of t)
putting_start version values t out start fits room =
    record { before = []; reached = omega arith; is = sym (over_none out start); whole = refl; fits = fits; room = room }

module _ (version : Version) (values t out₀ : List ℕ) (start : ℕ) (out : List ℕ) (at : ℕ) (left : List Row)
    (p : Putting version values t out₀ start out at left) where
  long : length p.before ≤ length (message_zone version (map (feature_of values) (rows_of t)))
  long = omega (arith, ap length p.whole, length-append p.before (message_zone version (map (feature_of values) left)))

  pub putting_length : length out ≡ length out₀
  putting_length = ap length p.is ∙ length_over out₀ start p.before (omega (arith, long, p.room))

  abbrev zone : List Row → List ℕ
  zone rows = message_zone version (map (feature_of values) rows)

  pub putting_end : left ≡ [] → (at ≡ start + length (zone (rows_of t))) × (out ≡ over out₀ start (zone (rows_of t)))
  putting_end none =
      let all : zone (rows_of t) ≡ p.before =
      p.whole ∙ ap (λ rows. p.before ++ zone rows) none ∙ ap (λ z. p.before ++ z) (zone_none version values)
      ∙ append-nil p.before in
      (omega (arith, ap length all, p.reached), p.is ∙ ap (over out₀ start) (sym all))

  -- the first of the rows left
  module _ (r : Row) (more : List Row) (first : left ≡ r ∷ more) where
    all_fit : All (Fits version (length values)) (r ∷ more)
    all_fit = subst (λ rows. All (Fits version (length values)) rows) first p.fits

    -- it was judged
    pub putting_fits : Fits version (length values) r
    putting_fits = all_fit.0

    on : zone (rows_of t) ≡ p.before ++ (feature version (feature_of values r) ++ zone more)
    on = p.whole ∙ ap (λ rows. p.before ++ zone rows) first ∙ ap (λ z. p.before ++ z) (zone_cons version values r more)

    module _ (value : List ℕ) (f : value ≡ take r.size (drop r.place values)) where
      abbrev put : List ℕ
      put = feature version (record { tag = r.tag; value = value })

      same : feature version (feature_of values r) ≡ put
      same = ap (λ l. feature version (record { tag = r.tag; value = l })) (sym f)

      sized : length value ≡ r.size
      sized =
          ap length f
          ∙ length-take-le r.size (drop r.place values) (omega (arith, putting_fits.1, length-drop r.place values))

      fits_here : Room out at put
      fits_here =
          let one = feature version (feature_of values r) in
          let rest = zone more in
          let whole = length-append p.before (one ++ rest) in
          omega (arith, ap length on, whole, length-append one rest, ap length same, p.room, p.reached, putting_length)

      pub putting_asks : (r.tag < 256) × Measured version (length value) × Room out at put
      putting_asks = (
        omega (arith, putting_fits.0),
        (omega (arith, putting_fits.2.0, sized), subst (ValueSize version) (sym sized) putting_fits.2.1),
        fits_here,
      )

      pub putting_more :
          (out' : List ℕ) (at' : ℕ) → at' ≡ at + length put → out' ≡ over out at put →
          Putting version values t out₀ start out' at' more
      putting_more out' at' ea eo = record {
        before = p.before ++ put;
        reached = omega (arith, p.reached, ea, length-append p.before put);
        is =
            eo ∙ ap (λ o. over o at put) p.is ∙ ap (λ k. over (over out₀ start p.before) k put) p.reached
            ∙ over_over out₀ start p.before put (omega (arith, long, p.room));
        whole = on ∙ ap (λ l. p.before ++ (l ++ zone more)) same ∙ sym (append_assoc p.before put (zone more));
        fits = all_fit.1;
        room = p.room;
      }
