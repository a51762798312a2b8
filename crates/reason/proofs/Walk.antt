-- The features, and the signature behind them.
-- Assumes nothing.
use Rattle.std.specs.Prelude.{◌≡◌, refl, Bool, true, false, ℕ, zero, suc, ◌+◌, ◌<◌, List, [], ◌∷◌, ◌++◌, ltb, eqb, length, take, get_or}
use Rattle.std.proofs.Common.{ap, sym, subst, ◌∙◌, arith, eqb-true, ltb-true, ltb-false}
use Rattle.std.proofs.lemmas.Bool.{eqb-false}
use Rattle.format.specs.Bytes.{All, Bytes}
use Rattle.format.specs.Choice.{either}
use Rattle.format.specs.Choice.Laws.{by_test, not_true}
use Rattle.format.specs.Places.{at_place}
use Rattle.fields.specs.Signature.{is_signature}
use Rattle.der.specs.Length.{Sized, form}
use Rattle.der.proofs.Lengths.Exact.{cut_form}
use Rattle.grammar.specs.Content.{Version, three, four}
use Rattle.grammar.specs.Legal.{Unused, SignatureSize, n28, n32, n48, n64, n66}
use Rattle.grammar.proofs.Sizes.{has, free, free_less, free_most, unused_not}
use Rattle.causes.specs.declared.Item.TheVariants as item
use Rattle.causes.specs.declared.Rule.TheVariants as rule
use Rattle.rules.specs.Rules.{Here, Rule, Keeps, der_size}
use Rattle.rules.specs.Layout.{Item, der_rules, rules_of, At, on, to_length, to_value, to_next, to_signature_length, to_signature, to_end}
use Rattle.rules.specs.Reason.One.{here_one, Whole}
use Rattle.verdict.specs.Items.{is, not, why, pass, next, whole, plain_in, feature_length, der_length}
use Rattle.verdict.specs.Judge.{Row, used, tag_in, tag, value_in, row, features, raw_in, end_in, size_in, signature}
use Rattle.verdict.proofs.Judge.Sound.{size_of}
use Rattle.reason.proofs.Goes.{Goes, own, goes_next, goes_pass, goes_pick, all_there, fault_at, goes_whole, goes_byte}
use Rattle.reason.proofs.Lengths.{Der, der_goes}

-- the tags that the rows before have, as a test
abbrev Same : List Row → List ℕ → Type 0
Same rows tags = (x : ℕ) → used x rows ≡ has x tags

swap : (a b c : Bool) → either a (either b c) ≡ either b (either a c)
swap true true c = refl
swap true false c = refl
swap false true c = refl
swap false false c = refl

used_end : (x : ℕ) (rows : List Row) (r : Row) → used x (rows ++ (r ∷ [])) ≡ either (eqb x r.tag) (used x rows)
used_end x [] r = refl
used_end x (q ∷ rows) r = ap (either (eqb x q.tag)) (used_end x rows r) ∙ swap (eqb x q.tag) (eqb x r.tag) (used x rows)

same_more : (rows : List Row) (tags : List ℕ) (r : Row) (y : ℕ) → r.tag ≡ y → Same rows tags → Same (rows ++ (r ∷ [])) (y ∷ tags)
unfolding has
same_more rows tags r y e same x =
    used_end x rows r ∙ ap (λ z. either (eqb x z) (used x rows)) e ∙ ap (either (eqb x y)) (same x)

not_has : (x : ℕ) (tags : List ℕ) → has x tags ≡ false → Unused x tags
unfolding has
not_has x [] e = tt
not_has x (t ∷ tags) e =
    by_test (eqb x t)
    (λ f. absurd (not_true (sym e ∙ ap (λ b. either b (has x tags)) f)))
    (λ f. (eqb-false x t f, not_has x tags (sym (ap (λ b. either b (has x tags)) f) ∙ e)))

-- a tag
record TagRead (s : List ℕ) (v : Version) (tags : List ℕ) (at x after : ℕ) : Type 0 where
  is_byte : x ≡ get_or s at 0
  is_after : after ≡ at + 1
  fresh : has x tags ≡ false
  kept : All (Keeps s at) (rules_of (Item.tag v tags))

tag_goes : {s : List ℕ} {v : Version} {tags : List ℕ} {at : ℕ} (rows : List Row) → Same rows tags → At s (Item.tag v tags) at
    → Goes s (why item.Tag) (TagRead s v tags at) (tag rows at s)
unfolding tag
tag_goes {s} {v} {tags} {at} rows same w =
    let x = get_or s at 0 in
    goes_byte w (TagRead s v tags at) (tag_in rows at) (Rule.not_used_before tags ∷ []) refl
    (λ h. goes_pick s (why item.Tag) (TagRead s v tags at) (used x rows) (not rule.NotUsedBefore at) (is x (at + 1))
    (λ e. fault_at w (Rule.there 1 ∷ []) (Rule.not_used_before tags) [] refl (h, tt)
    (λ u. not_true (sym (unused_not x tags u) ∙ sym (same x) ∙ e)) at refl (all_there 1 at s h))
    (λ e.
    let fresh = sym (same x) ∙ e in
    record { is_byte = refl; is_after = refl; fresh = fresh; kept = (h, (not_has x tags fresh, tt)) }))

-- length and value
length_goes : {s : List ℕ} {tags : List ℕ} {at : ℕ} (v : Version) → Bytes s → At s (Item.value_length v tags) at
    → Goes s (why item.Length) (λ n after. At s (Item.value v tags n) after) (feature_length v at s)
length_goes {s} {tags} {at} three bytes w =
    goes_byte w (λ n after. At s (Item.value three tags n) after) (plain_in at) [] refl
    (λ h.
    let x = get_or s at 0 in
    let here : Here s at (x ∷ []) = ap (take 1) (at_place s at 0 (omega arith)) in
    on w (h, tt) (to_value at three tags x (omega (arith, bytes at)) here))
length_goes {s} {tags} {at} four bytes w =
    der_goes bytes w [] refl refl (λ n after. At s (Item.value four tags n) after)
    (λ n d. on w d.kept (to_value at four tags n d.sized d.here))

record RowRead (s : List ℕ) (v : Version) (tags : List ℕ) (x : ℕ) (r : Row) (after : ℕ) : Type 0 where
  is_tag : r.tag ≡ x
  way : At s (Item.tag v tags) after

row_goes : {s : List ℕ} {v : Version} {tags : List ℕ} {at : ℕ} (x start : ℕ) → Bytes s → At s (Item.value_length v tags) at
    → Goes s own (RowRead s v tags x) (row v x start at s)
unfolding row
row_goes {s} {v} {tags} {at} x start bytes w =
    goes_next s item.Length (λ n after. At s (Item.value v tags n) after) Next (feature_length v at s)
    (λ n at. next item.Value (whole n at s (value_in x start n at)) is) (length_goes v bytes w)
    (λ n at w1. goes_next s item.Value Next Next (whole n at s (value_in x start n at)) is
    (goes_whole w1 Next n (value_in x start n at) [] refl (λ h. record { is_tag = refl; way = on w1 (h, tt) (to_next at v tags n) }))
    (λ r end g. g))
  where
    Next : Row → ℕ → Type 0
    Next = RowRead s v tags x

-- the features, of which there are fewer than the fuel
abbrev Ended : List ℕ → List Row → ℕ → Type 0
Ended s rows at = At s Item.signature_length (at + 1)

features_goes : (more n : ℕ) → 254 < n → (s : List ℕ) → Bytes s → (v : Version) (rows : List Row) (tags : List ℕ) (at : ℕ) → Same rows tags
    → free n tags < more → At s (Item.tag v tags) at → Goes s own (Ended s) (features more v rows at s)
unfolding features
features_goes zero n h s bytes v rows tags at same less w = absurd (omega arith)
features_goes (suc more) n h s bytes v rows tags at same less w =
    let ih = features_goes more n h s bytes v in
    goes_next s item.Tag (TagRead s v tags at) (Ended s) (tag rows at s) _ (tag_goes rows same w)
    (λ x after t. goes_pick s own (Ended s) (eqb x 0xFF) (is rows at)
    (pass (row v x at after s) (λ r at. features more v (rows ++ (r ∷ [])) at s))
    (λ e. on w t.kept (to_signature_length at v tags (sym t.is_byte ∙ eqb-true x 0xFF e)))
    (λ e.
    let other = eqb-false x 0xFF e in
    let low : x < 256 = subst (λ y. y < 256) (sym t.is_byte) (bytes at) in
    let fewer = free_less n x tags (omega arith) t.fresh in
    let w1 : At s (Item.value_length v (x ∷ tags)) after =
    subst (λ y. At s (Item.value_length v (y ∷ tags)) after) (sym t.is_byte)
    (subst (At s (Item.value_length v (get_or s at 0 ∷ tags))) (sym t.is_after)
    (on w t.kept (to_length at v tags (λ f. other (t.is_byte ∙ f))))) in
    goes_pass s own (RowRead s v (x ∷ tags) x) (Ended s) (row v x at after s) (λ r at. features more v (rows ++ (r ∷ [])) at s)
    (row_goes x at bytes w1)
    (λ r end g. ih (rows ++ (r ∷ [])) (x ∷ tags) end (same_more rows tags r x g.is_tag same) (omega arith) g.way)))

none_used : Same [] []
unfolding has
none_used x = refl

features_begin : (n : ℕ) → 254 < n → n < 256 → (s : List ℕ) → Bytes s → (v : Version) (at : ℕ) → At s (Item.tag v []) at
    → Goes s own (Ended s) (features 256 v [] at s)
features_begin n h g s bytes v at w =
    features_goes 256 n h s bytes v [] [] at none_used (omega (arith, free_most n [])) w

pub message_goes : (s : List ℕ) → Bytes s → (v : Version) (at : ℕ) → At s (Item.tag v []) at
    → Goes s own (λ rows after. At s Item.signature_length (after + 1)) (features 256 v [] at s)
message_goes s bytes v at w = features_begin 255 (omega arith) (omega arith) s bytes v at w

-- the signature
small : (n : ℕ) → SignatureSize n → Sized n
small n n28 = omega arith
small n n32 = omega arith
small n n48 = omega arith
small n n64 = omega arith
small n n66 = omega arith

passes : (n : ℕ) → SignatureSize n → is_signature n ≡ true
passes n n28 = refl
passes n n32 = refl
passes n n48 = refl
passes n n64 = refl
passes n n66 = refl

record SizeRead (s : List ℕ) (at n after : ℕ) : Type 0 where
  der : Der s at n
  is_after : after ≡ at + length (form n)

pub signature_goes : (s : List ℕ) → Bytes s → (at : ℕ) → At s Item.signature_length at → Goes s own (λ n after. Whole s) (signature at s)
unfolding signature
signature_goes s bytes at w =
    goes_next s item.SignatureLength (SizeRead s at) Good (der_length at s) (size_in at s)
    (der_goes bytes w (Rule.signature_size ∷ []) refl refl (SizeRead s at) (λ n d. record { der = d; is_after = refl }))
    (λ n start g.
    let d = g.der in
    let k = d.kept in
    goes_pick s own Good (is_signature n) (next item.Signature (whole n start s (raw_in n start)) (end_in start s))
    (not (why item.SignatureLength rule.SignatureSize) at)
    (λ e.
    let w1 : At s (Item.signature n) start =
    subst (At s (Item.signature n)) (sym g.is_after)
    (on w (k.0, (k.1.0, (k.1.1.0, (k.1.1.1.0, ((n, size_of n e, d.here), tt))))) (to_signature at n d.sized d.here)) in
    goes_next s item.Signature (λ m end. At s Item.end end) Good (whole n start s (raw_in n start)) (end_in start s)
    (goes_whole w1 (λ m end. At s Item.end end) n (raw_in n start) [] refl (λ h. on w1 (h, tt) (to_end start n)))
    (λ m end w2. goes_pick s own Good (ltb end (length s)) (not (why item.End rule.NothingAfter) end) (is m start)
    (λ f.
    let more = ltb-true end (length s) f in
    fault_at w2 [] Rule.nothing_after [] refl tt (λ z. omega arith) end refl (all_there 1 end s (omega arith)))
    (λ f. record { at = end; way = w2; kept = (ltb-false end (length s) f, tt) })))
    (λ e. fault_at w der_rules Rule.signature_size [] refl k
    (λ z.
    let same : z.0 ≡ n = here_one Sized form cut_form s at z.0 n (small z.0 z.1) d.sized z.2 d.here in
    not_true (sym e ∙ ap is_signature (sym same) ∙ passes z.0 z.1))
    at refl (all_there (der_size s at) at s k.1.1.0)))
  where
    Good : ℕ → ℕ → Type 0
    Good n after = Whole s
