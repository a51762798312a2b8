-- No byte string has two reasons: on its way there is one item at each step, at one place, and of its rules one is the first that is
-- broken.
-- Assumes nothing.
use Rattle.std.specs.Prelude.{◌≡◌, refl, true, false, ℕ, zero, suc, ◌+◌, ◌*◌, ◌/◌, ◌%◌, ◌-◌, ◌≤◌, ◌<◌, List, [], ◌∷◌, ◌++◌, ltb, length, take, drop, get_or}
use Rattle.std.proofs.Common.{ap, sym, subst, ◌∙◌, arith, ltb-true, ltb-false, take-append-drop}
use Rattle.format.specs.Bytes.{All}
use Rattle.format.specs.Bytes.Laws.{all_front, all_back}
use Rattle.format.specs.Choice.{pick}
use Rattle.format.specs.Choice.Laws.{by_test}
use Rattle.format.specs.Cut.{Cut}
use Rattle.c40.specs.Text.{Text, TextOf, width, publish as c40}
use Rattle.c40.proofs.Exact.{cut_text}
use Rattle.der.specs.Length.{Sized, form}
use Rattle.der.proofs.Lengths.Exact.{cut_form}
use Rattle.grammar.specs.Content.{Version, three, four}
use Rattle.format.specs.Hex.{hex_digit, hex_value}
use Rattle.format.proofs.Hex.Laws.{digit_value}
use Rattle.versions.specs.Versions.{version_byte}
use Rattle.grammar.specs.Publish.{length_of, hex_digits}
use Rattle.c40.proofs.Wrong.{one_first}
use Rattle.rules.specs.Rules.{Here, Carries, Digits, Rule, Keeps, Placed}
use Rattle.rules.specs.Layout.{Item, rules_of, At, start, on, Follows, to_mark, to_version, to_country, to_names, to_issued_3}
use Rattle.rules.specs.Layout.{to_signer, to_reference, to_issued_4, to_signed, to_definition, to_category, to_tag, to_length}
use Rattle.rules.specs.Layout.{to_value, to_next, to_signature_length, to_signature, to_end}
use Rattle.rules.specs.Reason.{Reason}

-- what stands at a place is one thing, if it can be cut off in one way only
pub here_one : {A : Type 0} (Legal : A → Type 0) (publish : A → List ℕ) → Cut Legal publish → (s : List ℕ) (at : ℕ) (a b : A)
    → Legal a → Legal b → Here s at (publish a) → Here s at (publish b) → a ≡ b
here_one Legal publish cut s at a b la lb ha hb =
    let front : (x : List ℕ) → Here s at x → x ++ drop (length x) (drop at s) ≡ drop at s =
    λ x h. ap (λ u. u ++ drop (length x) (drop at s)) (sym h) ∙ take-append-drop (length x) (drop at s) in
    (cut a b (drop (length (publish a)) (drop at s)) (drop (length (publish b)) (drop at s)) la lb
    (front (publish a) ha ∙ sym (front (publish b) hb))).0

-- a version, a length, two digits
version_one : (v w : Version) → version_byte v ≡ version_byte w → v ≡ w
version_one three three e = refl
version_one three four e = absurd (omega arith)
version_one four three e = absurd (omega arith)
version_one four four e = refl

length_one : (v : Version) (s : List ℕ) (at n m : ℕ) → Sized n → Sized m → Here s at (length_of v n) → Here s at (length_of v m) → n ≡ m
length_one three s at n m a b f g = ap (λ u. get_or u 0 0) (sym f ∙ g)
length_one four s at n m a b f g = here_one Sized form cut_form s at n m a b f g

digit_one : (n m : ℕ) → n < 16 → m < 16 → hex_digit n ≡ hex_digit m → n ≡ m
digit_one n m a b e = sym (digit_value n a) ∙ ap hex_value e ∙ digit_value m b

digits_one : (n m : ℕ) → n ≤ 255 → m ≤ 255 → hex_digits n ≡ hex_digits m → n ≡ m
digits_one n m a b e =
    let high = digit_one (n / 16) (m / 16) (omega arith) (omega arith) (ap (λ u. get_or u 0 0) e) in
    let low = digit_one (n % 16) (m % 16) (omega arith) (omega arith) (ap (λ u. get_or u 1 0) e) in
    omega arith

six_one : (s : List ℕ) (at n m : ℕ) → Carries s at 6 (Digits n) → Carries s at 6 (Digits m) → n ≡ m
six_one s at n m (t, is-t, here-t, dt) (u, is_u, here-u, du) =
    let same = here_one (TextOf 6) c40 (cut_text 6) s at t u is-t is_u here-t here-u in
    digits_one n m dt.0 du.0 (sym dt.1 ∙ ap (drop 4) same ∙ du.1)

-- what follows is one item at one place
abbrev pub Same : Item → ℕ → Item → ℕ → Type 0
Same i p j q = (i ≡ j) × (p ≡ q)

follows_one : {s : List ℕ} {i j k : Item} {p q r : ℕ} → Follows s i p j q → Follows s i p k r → Same j q k r
follows_one (to_mark p) (to_mark _) = (refl, refl)
follows_one (to_version p) (to_version _) = (refl, refl)
follows_one {s} (to_country p v e) (to_country _ w f) = (ap Item.country (version_one v w (sym e ∙ f)), refl)
follows_one (to_names p) (to_names _) = (refl, refl)
follows_one (to_signer p) (to_signer _) = (refl, refl)
follows_one (to_issued_3 p) (to_issued_3 _) = (refl, refl)
follows_one {s} (to_reference p n a) (to_reference _ m b) = (ap Item.reference (six_one s p n m a b), refl)
follows_one (to_issued_4 p n) (to_issued_4 _ _) = (refl, refl)
follows_one (to_signed p v) (to_signed _ _) = (refl, refl)
follows_one (to_definition p v) (to_definition _ _) = (refl, refl)
follows_one (to_category p v) (to_category _ _) = (refl, refl)
follows_one (to_tag p v) (to_tag _ _) = (refl, refl)
follows_one (to_length p v tags a) (to_length _ _ _ b) = (refl, refl)
follows_one (to_length p v tags a) (to_signature_length _ _ _ b) = absurd (a b)
follows_one {s} (to_value p v tags n a f) (to_value _ _ _ m b g) =
    let e = length_one v s p n m a b f g in
    (ap (Item.value v tags) e, ap (λ x. p + length (length_of v x)) e)
follows_one (to_next p v tags n) (to_next _ _ _ _) = (refl, refl)
follows_one (to_signature_length p v tags a) (to_length _ _ _ b) = absurd (b a)
follows_one (to_signature_length p v tags a) (to_signature_length _ _ _ b) = (refl, refl)
follows_one {s} (to_signature p n a f) (to_signature _ m b g) =
    let e = here_one Sized form cut_form s p n m a b f g in
    (ap Item.signature e, ap (λ x. p + length (form x)) e)
follows_one (to_end p n) (to_end _ _) = (refl, refl)

-- how many items lie before; and on one way there is one item at each count
steps : {s : List ℕ} {i : Item} {p : ℕ} → At s i p → ℕ
steps start = 0
steps (on w kept f) = suc (steps w)

moved : {s : List ℕ} {i j k : Item} {p q r : ℕ} → Same i p j q → Follows s j q k r → Follows s i p k r
moved {s} {i} {j} {k} {p} {q} {r} e f = subst (λ x. Follows s x p k r) (sym e.0) (subst (λ x. Follows s j x k r) (sym e.1) f)

same_step : {s : List ℕ} {i j : Item} {p q : ℕ} (a : At s i p) (b : At s j q) → steps a ≡ steps b → Same i p j q
unfolding steps
same_step start start e = (refl, refl)
same_step start (on w kept f) e = absurd (omega arith)
same_step (on w kept f) start e = absurd (omega arith)
same_step (on w kept f) (on w' kept' f') e =
    let ih = same_step w w' (omega arith) in
    follows_one f (moved ih f')

-- of two items on one way the one lies before the other, or they are one
by_steps : {C : Type 0} {s : List ℕ} {i j : Item} {p q : ℕ} (a : At s i p) (b : At s j q) → (steps a < steps b → C)
    → (steps b < steps a → C) → (Same i p j q → C) → C
by_steps a b before after same =
    by_test (ltb (steps a) (steps b))
    (λ e. before (ltb-true (steps a) (steps b) e))
    (λ e. by_test (ltb (steps b) (steps a))
    (λ f. after (ltb-true (steps b) (steps a) f))
    (λ f. same (same_step a b (omega (arith, ltb-false (steps a) (steps b) e, ltb-false (steps b) (steps a) f)))))

-- all rules of the item at a place are kept, and so of the same item
abbrev pub Kept : List ℕ → Item → ℕ → Type 0
Kept s i p = All (Keeps s p) (rules_of i)

as_kept : (s : List ℕ) {i j : Item} {p q : ℕ} → Same i p j q → Kept s j q → Kept s i p
as_kept s {i} {j} {p} {q} e k = subst (λ x. Kept s x p) (sym e.0) (subst (Kept s j) (sym e.1) k)

-- an item that was passed keeps its rules
passed_kept : {s : List ℕ} {i j : Item} {p q : ℕ} (a : At s i p) (b : At s j q) → steps a < steps b → Kept s i p
unfolding steps
passed_kept a start h = absurd (omega arith)
passed_kept {s} a (on w kept f) h =
    by_steps a w (λ e. passed_kept a w e) (λ e. absurd (omega arith)) (λ same. as_kept s same kept)

-- an item that breaks a rule does not keep all its rules
pub not_kept : {s : List ℕ} (r : Reason s) → Kept s r.item r.at → ⊥
not_kept {s} r all =
    r.broken (all_back (Keeps s r.at) r.earlier (r.rule ∷ r.later) (subst (All (Keeps s r.at)) (sym r.own) all)).0

-- the first rule that is broken is one rule
first_broken : (P : Rule → Type 0) (a b : List Rule) (x y : Rule) (t u : List Rule) → a ++ (x ∷ t) ≡ b ++ (y ∷ u) → All P a → All P b
    → (P x → ⊥) → (P y → ⊥) → x ≡ y
first_broken P [] [] x y t u e pa pb nx ny = cc
first_broken P [] (z ∷ b) x y t u e pa pb nx ny = let same : z ≡ x = cc in absurd (nx (subst P same pb.0))
first_broken P (z ∷ a) [] x y t u e pa pb nx ny = let same : z ≡ y = cc in absurd (ny (subst P same pa.0))
first_broken P (z ∷ a) (w ∷ b) x y t u e pa pb nx ny = first_broken P a b x y t u (cc) pa.1 pb.1 nx ny

-- one place is told of a rule
one_place : (s : List ℕ) (at : ℕ) (r : Rule) (p q : ℕ) → Placed s at r p → Placed s at r q → p ≡ q
one_place s at Rule.not_too_long p q a b = a ∙ sym b
one_place s at (Rule.there k) p q a b = a ∙ sym b
one_place s at Rule.is_mark p q a b = a ∙ sym b
one_place s at Rule.is_version p q a b = a ∙ sym b
one_place s at (Rule.well_coded k) p q (i, e, f) (j, g, h) = e ∙ ap (λ n. at + n) (one_first k _ i j f h) ∙ sym g
one_place s at Rule.country_code p q a b = a ∙ sym b
one_place s at (Rule.signer_characters k) p q a b = a ∙ sym b
one_place s at (Rule.reference_characters k from) p q a b = a ∙ sym b
one_place s at Rule.hexadecimal_digits p q a b = a ∙ sym b
one_place s at Rule.not_zero p q a b = a ∙ sym b
one_place s at Rule.is_day p q a b = a ∙ sym b
one_place s at Rule.one_to254 p q a b = a ∙ sym b
one_place s at (Rule.not_used_before tags) p q a b = a ∙ sym b
one_place s at Rule.begins_length p q a b = a ∙ sym b
one_place s at Rule.rest_there p q a b = a ∙ sym b
one_place s at Rule.shortest p q a b = a ∙ sym b
one_place s at Rule.signature_size p q a b = a ∙ sym b
one_place s at Rule.nothing_after p q a b = a ∙ sym b

-- two reasons name one item at one place, and one rule, told at one place
pub record OneReason {s : List ℕ} (a b : Reason s) : Type 0 where
  pub item : a.item ≡ b.item
  pub at : a.at ≡ b.at
  pub rule : a.rule ≡ b.rule
  pub place : a.place ≡ b.place

-- No byte string has two reasons.
pub one_reason : {s : List ℕ} (a b : Reason s) → OneReason a b
one_reason {s} a b =
    by_steps a.way b.way
    (λ h. absurd (not_kept a (passed_kept a.way b.way h)))
    (λ h. absurd (not_kept b (passed_kept b.way a.way h)))
    (λ same.
    let at = same.1 in
    let own : a.earlier ++ (a.rule ∷ a.later) ≡ b.earlier ++ (b.rule ∷ b.later) = a.own ∙ ap rules_of same.0 ∙ sym b.own in
    let rule : a.rule ≡ b.rule =
    first_broken (Keeps s a.at) a.earlier b.earlier a.rule b.rule a.later b.later own a.kept
    (subst (λ x. All (Keeps s x) b.earlier) (sym at) b.kept) a.broken
    (λ k. b.broken (subst (λ x. Keeps s x b.rule) at k)) in
    record {
      item = same.0;
      at = at;
      rule = rule;
      place =
          one_place s a.at a.rule a.place b.place a.placed
          (subst (λ x. Placed s x a.rule b.place) (sym at)
          (subst (λ x. Placed s b.at x b.place) (sym rule) b.placed));
    })

-- A byte string whose last item is reached and kept has no reason.
pub record Whole (s : List ℕ) : Type 0 where
  pub at : ℕ
  pub way : At s Item.end at
  pub kept : Kept s Item.end at

none_after : {s : List ℕ} {j : Item} {p q : ℕ} → Follows s Item.end p j q → ⊥
none_after f = elim f [ ]

-- no item lies behind the end
beyond : {s : List ℕ} {i j : Item} {p q : ℕ} (a : At s i p) (b : At s j q) → steps a < steps b → i ≡ Item.end → ⊥
unfolding steps
beyond a start h e = omega arith
beyond {s} a (on {j = j} {p = p'} {q} w kept f) h e =
    by_steps a w (λ t. beyond a w t e) (λ t. omega arith)
    (λ same. none_after (subst (λ x. Follows s x p' j q) (sym same.0 ∙ e) f))

pub whole_none : {s : List ℕ} → Whole s → Reason s → ⊥
whole_none {s} w r =
    by_steps r.way w.way
    (λ h. not_kept r (passed_kept r.way w.way h))
    (λ h. beyond w.way r.way h refl)
    (λ same. not_kept r (as_kept s same w.kept))

-- and every item that stands in it keeps all its rules
pub all_kept : {s : List ℕ} → Whole s → {i : Item} {p : ℕ} → At s i p → Kept s i p
all_kept {s} w a =
    by_steps a w.way
    (λ h. passed_kept a w.way h)
    (λ h. absurd (beyond w.way a h refl))
    (λ same. as_kept s same w.kept)

-- Every other item that stands in a byte string with a reason keeps all its rules.
pub others_kept : {s : List ℕ} (r : Reason s) {i : Item} {p : ℕ} → At s i p → (Same i p r.item r.at → ⊥) → Kept s i p
others_kept r a other =
    by_steps a r.way
    (λ h. passed_kept a r.way h)
    (λ h. absurd (not_kept r (passed_kept r.way a h)))
    (λ same. absurd (other same))
