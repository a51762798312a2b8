-- The features of a legal content are read as its rows, up to FF.
-- Assumes nothing.
use Rattle.std.specs.Prelude.{◌≡◌, refl, true, false, ℕ, zero, suc, ◌+◌, ◌^◌, ◌<◌, List, [], ◌∷◌, ◌++◌, eqb, length}
use Rattle.std.proofs.Common.{ap, sym, subst, ◌∙◌, arith, ne_eqb, append_assoc, append-nil, length-append}
use Rattle.format.specs.Choice.{pick, either}
use Rattle.format.specs.Choice.Laws.{by_test}
use Rattle.grammar.specs.Content.{Version, Feature}
use Rattle.grammar.specs.Publish.{length_of, message_zone}
use Rattle.grammar.specs.Legal.{Unused, LegalFeatures}
use Rattle.causes.specs.declared.Rule.TheVariants as rule
use Rattle.rows.specs.Rows.{row_of}
use Rattle.verdict.specs.Items.{is, not, whole, byte, feature_length}
use Rattle.verdict.proofs.Items.Laws.{byte_there, whole_there, feature_length_there}
use Rattle.verdict.specs.Judge.{Row, used, tag, row, features, tag_in, value_in}

-- the rows of features that are published from a place on
unfoldable pub rows_of : Version → ℕ → List Feature → List Row
rows_of v at [] = []
rows_of v at (f ∷ fs) =
    let place = at + 1 + length (length_of v (length f.value)) in
    row_of f.tag at place (length f.value) ∷ rows_of v (place + length f.value) fs

-- a tag is used by none of the rows if it was not among the tags before
abbrev Fresh : List Row → List ℕ → Type 0
Fresh rows tags = (x : ℕ) → Unused x tags → used x rows ≡ false

not_false : true ≡ false → ⊥
not_false e = subst (λ b. pick b Unit ⊥) e tt

used_end : (x : ℕ) (rows : List Row) (r : Row) → used x rows ≡ false → eqb x r.tag ≡ false → used x (rows ++ (r ∷ [])) ≡ false
used_end x [] r e f = ap (λ b. either b false) f
used_end x (q ∷ rows) r e f =
    by_test (eqb x q.tag)
    (λ g. absurd (not_false (sym (ap (λ b. either b (used x rows)) g) ∙ e)))
    (λ g. ap (λ b. either b (used x (rows ++ (r ∷ [])))) g ∙ used_end x rows r (sym (ap (λ b. either b (used x rows)) g) ∙ e) f)

-- a feature's parts, bracketed to the right
pub feature_parts :
    (v : Version) (f : Feature) (fs : List Feature) (t : List ℕ) →
    message_zone v (f ∷ fs) ++ t ≡ f.tag ∷ (length_of v (length f.value) ++ (f.value ++ (message_zone v fs ++ t)))
unfolding message_zone
feature_parts v f fs t = simp append_assoc

-- A feature that is published after p, and what follows it: where its length, its value and what follows begin.
abbrev pub to_length : Feature → List ℕ → List ℕ
to_length f p = p ++ (f.tag ∷ [])

abbrev pub to_value : Version → Feature → List ℕ → List ℕ
to_value v f p = to_length f p ++ length_of v (length f.value)

abbrev pub to_next : Version → Feature → List ℕ → List ℕ
to_next v f p = to_value v f p ++ f.value

pub record Parts (v : Version) (f : Feature) (rest p s : List ℕ) : Type 0 where
  pub tag : s ≡ p ++ (f.tag ∷ (length_of v (length f.value) ++ (f.value ++ rest)))
  pub sized : s ≡ to_length f p ++ (length_of v (length f.value) ++ (f.value ++ rest))
  pub value : s ≡ to_value v f p ++ (f.value ++ rest)
  pub next : s ≡ to_next v f p ++ rest
  pub sized_place : length (to_length f p) ≡ length p + 1
  pub value_place : length (to_value v f p) ≡ length p + 1 + length (length_of v (length f.value))
  pub next_place : length (to_next v f p) ≡ length p + 1 + length (length_of v (length f.value)) + length f.value

pub parts :
    (v : Version) (f : Feature) (fs : List Feature) (p t s : List ℕ) →
    s ≡ p ++ (message_zone v (f ∷ fs) ++ t) →
    Parts v f (message_zone v fs ++ t) p s
parts v f fs p t s e =
    let l = length_of v (length f.value) in
    let rest = message_zone v fs ++ t in
    let tag : s ≡ p ++ (f.tag ∷ (l ++ (f.value ++ rest))) = e ∙ ap (λ z. p ++ z) (feature_parts v f fs t) in
    let sized : s ≡ to_length f p ++ (l ++ (f.value ++ rest)) = tag ∙ sym (append_assoc p (f.tag ∷ []) (l ++ (f.value ++ rest))) in
    let value : s ≡ to_value v f p ++ (f.value ++ rest) = sized ∙ sym (append_assoc (to_length f p) l (f.value ++ rest)) in
    let sized_place = length-append p (f.tag ∷ []) in
    let value_place : length (to_value v f p) ≡ length p + 1 + length l = omega (arith, length-append (to_length f p) l, sized_place) in
    record {
      tag = tag;
      sized = sized;
      value = value;
      next = value ∙ sym (append_assoc (to_value v f p) f.value rest);
      sized_place = sized_place;
      value_place = value_place;
      next_place = omega (arith, length-append (to_value v f p) f.value, value_place);
    }

pub zone_size :
    (v : Version) (f : Feature) (fs : List Feature) →
    length (message_zone v (f ∷ fs)) ≡ 1 + length (length_of v (length f.value)) + length f.value + length (message_zone v fs)
zone_size v f fs =
    let z = message_zone v fs in
    let e = ap length (sym (append-nil (message_zone v (f ∷ fs))) ∙ feature_parts v f fs []) in
    omega (
      arith,
      e,
      length-append (length_of v (length f.value)) (f.value ++ (z ++ [])),
      length-append f.value (z ++ []),
      length-append z [],
    )

pub features_there :
    (more : ℕ) (v : Version) (fs : List Feature) (tags : List ℕ) (rows : List Row) (p t : List ℕ) →
    LegalFeatures v tags fs →
    Fresh rows tags →
    used 0xFF rows ≡ false →
    length fs < more →
    length (message_zone v fs) < 2 ^ 32 →
    features more v rows (length p) (p ++ (message_zone v fs ++ (0xFF ∷ t)))
    ≡ is (rows ++ rows_of v (length p) fs) (length p + length (message_zone v fs))
unfolding features tag row rows_of message_zone
features_there zero v fs tags rows p t l fresh ff less small = absurd (omega arith)
features_there (suc more) v [] tags rows p t l fresh ff less small =
    let read : byte (length p) (p ++ (0xFF ∷ t)) (tag_in rows (length p)) ≡ is 0xFF (length p + 1) =
    byte_there p 0xFF t (tag_in rows (length p)) ∙ ap (λ b. pick b (not rule.NotUsedBefore (length p)) (is 0xFF (length p + 1))) ff in
    rw read (ap (λ u. is u (length p)) (sym (append-nil rows)) ∙ ap (is (rows ++ [])) (omega arith))
features_there (suc more) v (f ∷ fs) tags rows p t l fresh ff less small =
    let x = f.tag in
    let n = length f.value in
    let w = length (length_of v n) in
    let rest = message_zone v fs ++ (0xFF ∷ t) in
    let s = p ++ (message_zone v (f ∷ fs) ++ (0xFF ∷ t)) in
    let p1 = to_length f p in
    let p2 = to_value v f p in
    let p3 = to_next v f p in
    let q = parts v f fs p (0xFF ∷ t) s refl in
    let l1 = q.sized_place in
    let l2 = q.value_place in
    let l3 = q.next_place in
    let zone : length (message_zone v (f ∷ fs)) ≡ 1 + w + n + length (message_zone v fs) = zone_size v f fs in
    let r : Row = row_of x (length p) (length p + 1 + w) n in
    let i0 : byte (length p) s (tag_in rows (length p)) ≡ is x (length p + 1) =
    ap (λ z. byte (length p) z (tag_in rows (length p))) q.tag
    ∙ byte_there p x (length_of v n ++ (f.value ++ rest)) (tag_in rows (length p))
    ∙ ap (λ b. pick b (not rule.NotUsedBefore (length p)) (is x (length p + 1))) (fresh x l.1) in
    let i1 : feature_length v (length p + 1) s ≡ is n (length p + 1 + w) =
    ap (feature_length v (length p + 1)) q.sized ∙ ap (λ k. feature_length v k (p1 ++ (length_of v n ++ (f.value ++ rest)))) (sym l1)
    ∙ feature_length_there v p1 n (f.value ++ rest) (omega arith) ∙ ap (λ k. is n (k + w)) l1 in
    let i2 : whole n (length p + 1 + w) s (value_in x (length p) n (length p + 1 + w)) ≡ is r (length p + 1 + w + n) =
    ap (λ z. whole n (length p + 1 + w) z (value_in x (length p) n (length p + 1 + w))) q.value
    ∙ ap (λ k. whole n k (p2 ++ (f.value ++ rest)) (value_in x (length p) n (length p + 1 + w))) (sym l2)
    ∙ whole_there n p2 f.value rest (value_in x (length p) n (length p + 1 + w)) refl in
    let other : eqb x 0xFF ≡ false = ne_eqb x 0xFF (λ e. omega (arith, l.0)) in
    let fresh' : Fresh (rows ++ (r ∷ [])) (x ∷ tags) = λ y u. used_end y rows r (fresh y u.1) (ne_eqb y x u.0) in
    let ff' : used 0xFF (rows ++ (r ∷ [])) ≡ false = used_end 0xFF rows r ff (ne_eqb 0xFF x (λ e. omega (arith, l.0))) in
    let ih = features_there more v fs (x ∷ tags) (rows ++ (r ∷ [])) p3 t l.4 fresh' ff' (omega arith) (omega arith) in
    let last : features more v (rows ++ (r ∷ [])) (length p + 1 + w + n) s
    ≡ is (rows ++ (r ∷ rows_of v (length p + 1 + w + n) fs)) (length p + length (message_zone v (f ∷ fs))) =
    ap (features more v (rows ++ (r ∷ [])) (length p + 1 + w + n)) q.next
    ∙ ap (λ k. features more v (rows ++ (r ∷ [])) k (p3 ++ rest)) (sym l3)
    ∙ ih
    ∙ ap (λ u. is u (length p3 + length (message_zone v fs))) (append_assoc rows (r ∷ []) (rows_of v (length p3) fs))
    ∙ ap (λ k. is (rows ++ (r ∷ rows_of v k fs)) (length p3 + length (message_zone v fs))) l3
    ∙ ap (is (rows ++ (r ∷ rows_of v (length p + 1 + w + n) fs))) (omega arith) in
    rw (i0, other, i1, i2) last
