-- A content has a value of a tag exactly when a feature of it has that tag, and a row's value is its feature's.
-- Assumes nothing.
use Rattle.std.specs.Prelude.{◌≡◌, refl, ℕ, List, [], ◌∷◌, map, eqb}
use Rattle.std.proofs.Common.{ap, sym, ◌∙◌, inl, inr, ⊎_elim, arith, eq-eqb, ne_eqb, eqb-true}
use Rattle.std.proofs.lemmas.Bool.{eqb-false}
use Rattle.std.proofs.Math.Option
use Rattle.std.proofs.Math.Option.{Option, none, some, some-injective}
use Rattle.format.specs.Choice.{pick}
use Rattle.format.specs.Choice.Laws.{by_test}
use Rattle.grammar.specs.Content.{Version, Feature}
use Rattle.grammar.specs.Legal.{Unused, LegalFeatures}
use Rattle.reading.specs.declared.Part.{Part}
use Rattle.verdict.specs.Judge.{Row}
use Rattle.verdict.specs.Report.{part, feature_of}
use Rattle.shown.specs.Where.{value_in, first_of}
use Rattle.shown.specs.Values.{Has, value_of, seen, seen_of}

pub none_some : {A : Type 0} (a : A) → none ≡ some a → ⊥
none_some a e = let z : ◌≡◌ {A = ℕ} 0 1 = cc in omega arith

-- what is found is had
pub value_has : (tag : ℕ) (value : List ℕ) (fs : List Feature) → value_of tag fs ≡ some value → Has tag value fs
value_has tag value [] e = none_some value e
value_has tag value (f ∷ fs) e =
    by_test (eqb f.tag tag)
    (λ t.
    let here : some f.value ≡ some value = sym (ap (λ b. pick b (some f.value) (value_of tag fs)) t) ∙ e in
    inl (eqb-true f.tag tag t, some-injective f.value value here))
    (λ t. inr (value_has tag value fs (sym (ap (λ b. pick b (some f.value) (value_of tag fs)) t) ∙ e)))

-- where nothing is found nothing is had
pub none_has : (tag : ℕ) (value : List ℕ) (fs : List Feature) → value_of tag fs ≡ none → Has tag value fs → ⊥
none_has tag value [] e h = h
none_has tag value (f ∷ fs) e h =
    by_test (eqb f.tag tag)
    (λ t. none_some f.value (sym e ∙ ap (λ b. pick b (some f.value) (value_of tag fs)) t))
    (λ t.
    ⊎_elim (λ g. eqb-false f.tag tag t g.0)
    (none_has tag value fs (sym (ap (λ b. pick b (some f.value) (value_of tag fs)) t) ∙ e)) h)

-- a tag that is used before is had by none of the legal features that follow
not_again : (v : Version) (used : List ℕ) (fs : List Feature) → LegalFeatures v used fs → (tag : ℕ) (value : List ℕ)
    → ((x : ℕ) → Unused x used → x ≡ tag → ⊥) → Has tag value fs → ⊥
not_again v used [] l tag value before h = h
not_again v used (f ∷ fs) l tag value before h =
    ⊎_elim (λ g. before f.tag l.1 g.0)
    (not_again v (f.tag ∷ used) fs l.4 tag value (λ x u. before x u.1)) h

-- so of legal features what is had is what is found: "the feature with that tag" is one
pub has_value : (v : Version) (used : List ℕ) (fs : List Feature) → LegalFeatures v used fs → (tag : ℕ) (value : List ℕ)
    → Has tag value fs → value_of tag fs ≡ some value
has_value v used [] l tag value h = absurd h
has_value v used (f ∷ fs) l tag value h =
    ⊎_elim
    (λ g. ap (λ b. pick b (some f.value) (value_of tag fs)) (eq-eqb f.tag tag g.0) ∙ ap some g.1)
    (λ g.
    let other : f.tag ≡ tag → ⊥ = λ e. not_again v (f.tag ∷ used) fs l.4 tag value (λ x u y. u.0 (y ∙ sym e)) g in
    ap (λ b. pick b (some f.value) (value_of tag fs)) (ne_eqb f.tag tag other) ∙ has_value v (f.tag ∷ used) fs l.4 tag value g)
    h

-- the value that a row says is that of its feature
bytes_at : List ℕ → Part → List ℕ
bytes_at s p = part p.place p.length s

chosen : (s : List ℕ) (tag : ℕ) (r : Row) (rows : List Row) →
    Option.map (bytes_at s) (pick (eqb r.tag tag) (some (record { place = r.place; length = r.size })) (value_in tag rows))
    ≡ pick (eqb r.tag tag) (some (feature_of s r).value) (Option.map (bytes_at s) (value_in tag rows))
unfolding bytes_at
chosen s tag r rows =
    by_test (eqb r.tag tag)
    (λ t. rw t refl)
    (λ t. rw t refl)

row_value : (s : List ℕ) (tag : ℕ) (rows : List Row) → Option.map (bytes_at s) (value_in tag rows) ≡ value_of tag (map (feature_of s) rows)
row_value s tag [] = refl
row_value s tag (r ∷ rows) =
    let ih = row_value s tag rows in
    chosen s tag r rows ∙ ap (pick (eqb r.tag tag) (some (feature_of s r).value)) ih

-- what is seen of two seals, by their rows and by their features
seen_first : (main extension : List ℕ) (p q : Option Part)
    → seen main extension (first_of p q) ≡ seen_of (Option.map (bytes_at extension) p) (Option.map (bytes_at main) q)
unfolding bytes_at
seen_first main extension (some p) q = refl
seen_first main extension none (some q) = refl
seen_first main extension none none = refl

pub seen_rows : (main extension : List ℕ) (tag : ℕ) (rows others : List Row)
    → seen main extension (first_of (value_in tag others) (value_in tag rows))
    ≡ seen_of (value_of tag (map (feature_of extension) others)) (value_of tag (map (feature_of main) rows))
seen_rows main extension tag rows others =
    seen_first main extension (value_in tag others) (value_in tag rows)
    ∙ ap (λ o. seen_of o (Option.map (bytes_at main) (value_in tag rows))) (row_value extension tag others)
    ∙ ap (seen_of (value_of tag (map (feature_of extension) others))) (row_value main tag rows)
