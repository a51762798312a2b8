-- Sound: what is accepted is the published form of a legal content.
-- Assumes nothing.
use Rattle.std.specs.Prelude.{◌≡◌, refl, ◌⊎◌, Bool, true, false, ℕ, zero, suc, ◌+◌, ◌≤◌, ◌<◌, List, [], ◌∷◌, ◌++◌, ltb, eqb, length, take, drop, get_or}
use Rattle.std.proofs.Common.{ap, sym, subst, ◌∙◌, inl, inr, ⊎_elim, arith, eqb-true, ltb-false, append_assoc, append-nil, drop_of_length-le}
use Rattle.std.proofs.lemmas.Bool.{eqb-false}
use Rattle.format.specs.Choice.{pick, either}
use Rattle.format.specs.Choice.Laws.{by_test, not_true}
use Rattle.format.specs.Bytes.{Bytes}
use Rattle.format.specs.Bytes.Laws.{bytes_drop, bytes_take}
use Rattle.der.specs.Length.{form as der_form}
use Rattle.grammar.specs.Content.{Version, Feature, Content}
use Rattle.grammar.specs.Publish.{length_of, header_zone, message_zone, signature_zone, signed_bytes, publish}
use Rattle.grammar.specs.Legal.{Unused, ValueSize, LegalFeatures, SignatureSize, n28, n32, n48, n64, n66, Legal}
use Rattle.causes.specs.Causes.{rule_number}
use Rattle.causes.specs.declared.Rule.TheVariants as rule
use Rattle.causes.specs.declared.Item.TheVariants as item
use Rattle.rows.specs.Rows.{row_of}
use Rattle.verdict.specs.Items.{Item, Way, is, not, why, next, pass, whole, der_length, feature_length}
use Rattle.verdict.proofs.Items.Sound.{Stands, stands_append, steps, steps_on, stands, length_taken, same_value, same_place, passed}
use Rattle.verdict.proofs.Items.Sound.{der_read, feature_length_read, byte_read}
use Rattle.verdict.proofs.Items.Laws.{unread, whole_read}
use Rattle.verdict.specs.Judge.{Row, Report, Verdict, accepted, refused, header, used, tag_in, tag, value_in, row, features}
use Rattle.verdict.specs.Judge.{raw_in, end_in, size_in, signature, verdict, reading, judging, judge}
use Rattle.verdict.proofs.Judge.HeaderSound.{header_read}
use Rattle.fields.specs.Signature.{is_signature}

-- a tag that no row has was not among the tags before
abbrev Covers : List Row → List ℕ → Type 0
Covers rows tags = (x : ℕ) → used x rows ≡ false → Unused x tags

either_false : (a b : Bool) → either a b ≡ false → (a ≡ false) × (b ≡ false)
either_false true b e = absurd (not_true (sym e))
either_false false b e = (refl, e)

unused_end : (x : ℕ) (rows : List Row) (r : Row) → used x (rows ++ (r ∷ [])) ≡ false → (used x rows ≡ false) × (eqb x r.tag ≡ false)
unused_end x [] r e = (refl, (either_false (eqb x r.tag) false e).0)
unused_end x (q ∷ rows) r e =
    let p = either_false (eqb x q.tag) (used x (rows ++ (r ∷ []))) e in
    let ih = unused_end x rows r p.1 in
    (ap (λ b. either b (used x rows)) p.0 ∙ ih.0, ih.1)

-- what was read up to FF
pub record FeaturesRead (v : Version) (tags : List ℕ) (at end : ℕ) (s : List ℕ) : Type 0 where
  pub features : List Feature
  pub legal : LegalFeatures v tags features
  pub there : Stands (message_zone v features) at end s
  pub mark : Stands (0xFF ∷ []) end (end + 1) s

record TagRead (rows : List Row) (at : ℕ) (s : List ℕ) (x after : ℕ) : Type 0 where
  fresh : used x rows ≡ false
  small : x < 256
  there : Stands (x ∷ []) at after s

tag_read : (rows : List Row) (at : ℕ) (s : List ℕ) (x after : ℕ) → Bytes s → tag rows at s ≡ is x after → TagRead rows at s x after
unfolding tag
tag_read rows at s x after bytes e =
    let b = byte_read at s (tag_in rows at) x after e in
    by_test (used b.x rows)
    (λ t.
    absurd (unread rule.NotUsedBefore at x after (sym (ap (λ c. pick c (not rule.NotUsedBefore at) (is b.x (at + 1))) t) ∙ b.read)))
    (λ t.
    let f : ◌≡◌ {A = Item ℕ} (is b.x (at + 1)) (is x after) =
    sym (ap (λ c. pick c (not rule.NotUsedBefore at) (is b.x (at + 1))) t) ∙ b.read in
    let same = same_value b.x x (at + 1) after f in
    let place = same_place b.x x (at + 1) after f in
    let low : b.x < 256 = subst (λ u. get_or u 0 0 < 256) b.there (bytes_drop at s bytes 0) in
    record {
      fresh = subst (λ y. used y rows ≡ false) same t;
      small = subst (λ y. y < 256) same low;
      there = record { form_there = b.there ∙ ap (λ y. y ∷ drop (at + 1) s) same ∙ ap (λ k. x ∷ drop k s) place; size = sym place };
    })

record RowRead (v : Version) (x at : ℕ) (s : List ℕ) (r : Row) (after : ℕ) : Type 0 where
  value : List ℕ
  is_row : r.tag ≡ x
  size : ValueSize v (length value)
  bytes : Bytes value
  there : Stands (length_of v (length value) ++ value) at after s

row_read :
    (v : Version) (x start at : ℕ) (s : List ℕ) (r : Row) (after : ℕ) →
    Bytes s →
    row v x start at s ≡ is r after →
    RowRead v x at s r after
unfolding row
row_read v x start at s r after all e =
    let k = steps_on item.Length (feature_length v at s) (λ n at. next item.Value (whole n at s (value_in x start n at)) is) r after e in
    let n = k.value in
    let m = k.at in
    let l = feature_length_read v at s n m all k.read in
    let j = steps_on item.Value (whole n m s (value_in x start n m)) is r after k.goes_on_lem in
    let w = whole_read n m s (value_in x start n m) j.value j.at j.read in
    let b = take n (drop m s) in
    let many : length b ≡ n = length_taken n m s w.there in
    let q : Row = row_of x start m n in
    let same = same_value q j.value (m + n) j.at w.read ∙ same_value j.value r j.at after j.goes_on_lem in
    let place = same_place q j.value (m + n) j.at w.read ∙ same_place j.value r j.at after j.goes_on_lem in
    let here : Stands b m after s =
    record { form_there = stands n m s w.there ∙ ap (λ z. b ++ drop z s) place; size = sym place ∙ ap (λ z. m + z) (sym many) } in
    record {
      value = b;
      is_row = ap (λ (z : Row). z.tag) (sym same);
      size = subst (ValueSize v) (sym many) l.0;
      bytes = bytes_take n (drop m s) (bytes_drop m s all);
      there = stands_append (length_of v (length b)) b at m after s (subst (λ z. Stands (length_of v z) at m s) (sym many) l.1) here;
    }

-- no more features
ended : (v : Version) (tags : List ℕ) (at end : ℕ) (s : List ℕ) → at ≡ end → Stands (0xFF ∷ []) at (at + 1) s → FeaturesRead v tags at end s
unfolding message_zone
ended v tags at end s place ff = record {
  features = [];
  legal = tt;
  there = record { form_there = ap (λ k. drop k s) place; size = omega (arith, place) };
  mark = subst (λ k. Stands (0xFF ∷ []) k (k + 1) s) place ff;
}

form_of :
    (v : Version) (f : Feature) (fs : List Feature) →
    (f.tag ∷ (length_of v (length f.value) ++ f.value)) ++ message_zone v fs ≡ message_zone v (f ∷ fs)
unfolding message_zone
form_of v f fs = simp append_assoc

-- a feature and those after it, standing one after another
feature_stands :
    (v : Version) (f : Feature) (fs : List Feature) (at mid end : ℕ) (s : List ℕ) →
    Stands (f.tag ∷ (length_of v (length f.value) ++ f.value)) at mid s →
    Stands (message_zone v fs) mid end s →
    Stands (message_zone v (f ∷ fs)) at end s
feature_stands v f fs at mid end s one more =
    subst (λ u. Stands u at end s) (form_of v f fs) (stands_append _ _ at mid end s one more)

pub features_read :
    (more : ℕ) (v : Version) (rows : List Row) (at : ℕ) (s : List ℕ) (out : List Row) (end : ℕ) (tags : List ℕ) →
    Bytes s →
    Covers rows tags →
    features more v rows at s ≡ is out end →
    FeaturesRead v tags at end s
unfolding features
features_read zero v rows at s out end tags bytes covers e = absurd (unread (why item.Tag rule.NotUsedBefore) at out end e)
features_read (suc more) v rows at s out end tags bytes covers e =
    let i = steps_on item.Tag (tag rows at s) _ out end e in
    let x = i.value in
    let t = tag_read rows at s x i.at bytes i.read in
    by_test (eqb x 0xFF)
    (λ f.
    let g : ◌≡◌ {A = Way (List Row)} (is rows at) (is out end) =
    sym (ap (λ b. pick b (is rows at) (pass (row v x at i.at s) (λ r at. features more v (rows ++ (r ∷ [])) at s))) f) ∙ i.goes_on_lem in
    let place = same_place rows out at end g in
    let ff : Stands (0xFF ∷ []) at (at + 1) s =
    subst (λ y. Stands (y ∷ []) at (at + 1) s) (eqb-true x 0xFF f) (subst (λ k. Stands (x ∷ []) at k s) t.there.size t.there) in
    ended v tags at end s place ff)
    (λ f.
    let g : pass (row v x at i.at s) (λ r at. features more v (rows ++ (r ∷ [])) at s) ≡ is out end =
    sym (ap (λ b. pick b (is rows at) (pass (row v x at i.at s) (λ r at. features more v (rows ++ (r ∷ [])) at s))) f) ∙ i.goes_on_lem in
    let j = steps (row v x at i.at s) (λ r at. features more v (rows ++ (r ∷ [])) at s) out end g in
    let r = row_read v x at i.at s j.value j.at bytes j.read in
    let covers' : Covers (rows ++ (j.value ∷ [])) (x ∷ tags) = λ y u.
    let p = unused_end y rows j.value u in
    ((λ same. eqb-false y j.value.tag p.1 (same ∙ sym r.is_row)), covers y p.0) in
    let ih = features_read more v (rows ++ (j.value ∷ [])) j.at s out end (x ∷ tags) bytes covers' j.goes_on_lem in
    let one : Feature = record { tag = x; value = r.value } in
    let front = stands_append (x ∷ []) (length_of v (length r.value) ++ r.value) at i.at j.at s t.there r.there in
    record {
      features = one ∷ ih.features;
      legal = (omega (arith, t.small, eqb-false x 0xFF f), covers x t.fresh, r.size, r.bytes, ih.legal);
      there = feature_stands v one ih.features at j.at end s front ih.there;
      mark = ih.mark;
    })

-- the size that passed is one of the five
either_true : (a b : Bool) → either a b ≡ true → (a ≡ true) ⊎ (b ≡ true)
either_true true b e = inl refl
either_true false b e = inr e

pub size_of : (n : ℕ) → is_signature n ≡ true → SignatureSize n
size_of n e =
    let at : (k : ℕ) → SignatureSize k → eqb n k ≡ true → SignatureSize n = λ k z f. subst SignatureSize (sym (eqb-true n k f)) z in
    ⊎_elim (at 56 n28)
    (λ a. ⊎_elim (at 64 n32)
    (λ b.
    ⊎_elim (at 96 n48) (λ c. ⊎_elim (at 128 n64) (at 132 n66) (either_true (eqb n 128) (eqb n 132) c))
    (either_true (eqb n 96) (either (eqb n 128) (eqb n 132)) b))
    (either_true (eqb n 64) (either (eqb n 96) (either (eqb n 128) (eqb n 132))) a))
    (either_true (eqb n 56) (either (eqb n 64) (either (eqb n 96) (either (eqb n 128) (eqb n 132)))) e)

record SignatureRead (at : ℕ) (s : List ℕ) : Type 0 where
  raw : List ℕ
  size : SignatureSize (length raw)
  bytes : Bytes raw
  there : Stands (der_form (length raw) ++ raw) at (length s) s

signature_read : (at : ℕ) (s : List ℕ) (n start : ℕ) → Bytes s → signature at s ≡ is n start → SignatureRead at s
unfolding signature
signature_read at s n start all e =
    let i = steps_on item.SignatureLength (der_length at s) (size_in at s) n start e in
    let m = i.value in
    let k = i.at in
    let d = der_read at s m k all i.read in
    let p =
    passed (is_signature m) (next item.Signature (whole m k s (raw_in m k)) (end_in k s))
    (why item.SignatureLength rule.SignatureSize) at n start i.goes_on_lem in
    let j = steps_on item.Signature (whole m k s (raw_in m k)) (end_in k s) n start p.1 in
    let w = whole_read m k s (raw_in m k) j.value j.at j.read in
    let end : k + m ≡ j.at = same_place m j.value (k + m) j.at w.read in
    let z = take m (drop k s) in
    let many : length z ≡ m = length_taken m k s w.there in
    by_test (ltb j.at (length s))
    (λ t.
    absurd
    (unread (why item.End rule.NothingAfter) j.at n start
    (sym (ap (λ b. pick b (not (why item.End rule.NothingAfter) j.at) (is j.value k)) t) ∙ j.goes_on_lem)))
    (λ t.
    let last : k + m ≡ length s = omega (arith, w.there, ltb-false j.at (length s) t, end) in
    let here : Stands z k (length s) s =
    record { form_there = stands m k s w.there ∙ ap (λ u. z ++ drop u s) last; size = omega arith } in
    record {
      raw = z;
      size = subst SignatureSize (sym many) (size_of m p.0);
      bytes = bytes_take m (drop k s) (bytes_drop k s all);
      there = stands_append (der_form (length z)) z at k (length s) s (subst (λ u. Stands (der_form u) at k s) (sym many) d.1) here;
    })

-- a verdict that accepts comes from a reading
abbrev Accepted : Verdict → Type 0
Accepted (accepted r) = Unit
Accepted (refused number place) = ⊥

pub unaccepted : (number place : ℕ) (r : Report) → refused number place ≡ accepted r → ⊥
unaccepted number place r e = subst Accepted (sym e) tt

report_in : Report → Verdict → Report
report_in q (accepted r) = r
report_in q (refused number place) = q

pub record VerdictRead (i : Way Report) (r : Report) : Type 0 where
  pub end : ℕ
  pub read : i ≡ is r end

pub verdict_read : (i : Way Report) (r : Report) → verdict i ≡ accepted r → VerdictRead i r
unfolding report_in
verdict_read (is q at) r e = record { end = at; read = ap (λ z. is (report_in q z) at) e }
verdict_read (not why place) r e = absurd (unaccepted (rule_number why.rule) place r e)

at_most : (n : ℕ) → n ≤ n
at_most n = omega arith

-- what is accepted is the published form of a legal content
pub record Published (s : List ℕ) : Type 0 where
  pub content : Content
  pub legal : Legal content
  pub form_is : publish content ≡ s

pub accepted_published : (s : List ℕ) → Bytes s → (r : Report) → judge s ≡ accepted r → Published s
unfolding judge judging reading publish signed_bytes signature_zone
accepted_published s bytes r e =
    by_test (ltb 4096 (length s))
    (λ t. absurd (unaccepted 1 4096 r (sym (ap (λ b. verdict (pick b (not (why item.Seal rule.NotTooLong) 4096) (reading s))) t) ∙ e)))
    (λ t.
    let v = verdict_read (reading s) r (sym (ap (λ b. verdict (pick b (not (why item.Seal rule.NotTooLong) 4096) (reading s))) t) ∙ e) in
    let i0 = steps (header s) _ r v.end v.read in
    let h = i0.value in
    let i1 = steps (features 256 h.version [] i0.at s) _ r v.end i0.goes_on_lem in
    let i2 = steps (signature (i1.at + 1) s) _ r v.end i1.goes_on_lem in
    let a = header_read s h i0.at bytes i0.read in
    let f = features_read 256 h.version [] i0.at s i1.value i1.at [] bytes (λ x u. tt) i1.read in
    let g = signature_read (i1.at + 1) s i2.value i2.at bytes i2.read in
    let c : Content = record { header = h; features = f.features; signature = g.raw } in
    let front = stands_append (header_zone h) (message_zone h.version f.features) 0 i0.at i1.at s a.1 f.there in
    let back = stands_append (0xFF ∷ []) (der_form (length g.raw) ++ g.raw) i1.at (i1.at + 1) (length s) s f.mark g.there in
    let all = stands_append (header_zone h ++ message_zone h.version f.features) (0xFF ∷ (der_form (length g.raw) ++ g.raw)) 0
    i1.at (length s) s front back in
    let empty : drop (length s) s ≡ [] = drop_of_length-le s (at_most (length s)) in
    let form_is : publish c ≡ s = sym (all.form_there ∙ ap (λ u. publish c ++ u) empty ∙ append-nil (publish c)) in
    record {
      content = c;
      legal = record {
        header = a.0;
        features = f.legal;
        signature = g.size;
        bytes = g.bytes;
        size = omega (arith, ap length form_is, ltb-false 4096 (length s) t);
      };
      form_is = form_is;
    })
