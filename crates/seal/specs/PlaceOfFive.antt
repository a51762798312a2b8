-- What Ticket 1 of document 02 moved of the verdict: the place of 5 where an item is wrongly coded, and nothing else. Before it such an
-- item was told at its first byte; the definitions of then stand here, and the verdicts of then and now are shown to be the same, or both
-- 5, the place of now an even number of bytes past that of then.
-- Assumes nothing.
use Rattle.std.specs.Prelude.{◌≡◌, refl, ◌⊎◌, ℕ, ◌+◌, ◌%◌, ◌≤◌, List, map, ltb, length, take, drop}
use Rattle.std.proofs.Common.{ap, sym, subst, ◌∙◌, inl, inr, ⊎_elim, ltb-false}
use Rattle.std.proofs.Math.Option.{Option}
use Rattle.format.specs.Choice.{pick}
use Rattle.format.specs.Choice.Laws.{by_test}
use Rattle.c40.specs.Text.{width}
use Rattle.c40.specs.Decode.{decode}
use Rattle.causes.specs.declared.Item.{Item as Name}
use Rattle.causes.specs.declared.Item.TheVariants as item
use Rattle.causes.specs.declared.Rule.{Rule}
use Rattle.causes.specs.declared.Rule.TheVariants as rule
use Rattle.fields.specs.Characters.{shown}
use Rattle.grammar.specs.Content.{Version, three, four, Header}
use Rattle.verdict.specs.Items.{Item, Way, is, not, why, next, pass, whole, Exact, exact, wrong_at, exactly, judged_by, field_in, field}
use Rattle.verdict.specs.Items.{in_country, in_nine, in_six, in_reference, length_in, Names, named, mark, version, country, names, date, last}
use Rattle.verdict.proofs.Items.Sound.{length_taken}
use Rattle.verdict.proofs.Items.Wrong.{pair_even}
use Rattle.verdict.specs.Judge.{Report, Verdict, accepted, refused, header, after_header, reading, judging, verdict, judge}

-- as it was: a wrongly coded pair is told at the item's first byte
abbrev field_in_before : ℕ → (List ℕ → Option Rule) → ℕ → Exact → Item (List ℕ)
field_in_before k broken at (exact t) = judged_by (broken t) t at (at + width k)
field_in_before k broken at (wrong_at pair) = not rule.WellCoded at

abbrev pub field_before : ℕ → (List ℕ → Option Rule) → ℕ → List ℕ → Item (List ℕ)
field_before k broken at s = whole (width k) at s (λ bytes. field_in_before k broken at (exactly k (decode 0 bytes)))

-- and those that read fields
abbrev pub country_before : ℕ → List ℕ → Item (List ℕ)
country_before at s = pass (field_before 3 in_country at s) (λ t at. is (map shown t) at)

abbrev pub names_before : Version → ℕ → List ℕ → Way Names
names_before three at s =
    next item.Names (field_before 9 in_nine at s)
    (λ t at. is (record { signer = take 4 t; reference = drop 4 t }) at)
names_before four at s =
    next item.SignerAndLength (field_before 6 in_six at s)
    (λ six at. next (item.Reference (width (length_in six))) (field_before (length_in six) in_reference at s) (named six))

unfoldable pub header_before : List ℕ → Way Header
header_before s =
    next item.Mark (mark 0 s)
    (λ dc at. next item.Version (version at s)
    (λ v at. next item.Country (country_before at s)
    (λ c at. pass (names_before v at s)
    (λ n at. next item.Issued (date at s)
    (λ issued at. next item.Signed (date at s)
    (λ signed at. next item.Definition (last at s)
    (λ definition at. next item.Category (last at s)
    (λ category at.
    is
    (record {
      version = v;
      country = c;
      signer = n.signer;
      reference = n.reference;
      issued = issued;
      signed = signed;
      definition = definition;
      category = category;
    })
    at))))))))

unfoldable pub judge_before : List ℕ → Verdict
judge_before s =
    verdict (pick (ltb 4096 (length s)) (not (why item.Seal rule.NotTooLong) 4096) (pass (header_before s) (after_header s)))

-- an item of now and of then: the same, or wrongly coded, and told an even number of bytes on
abbrev MovedItem : {A : Type 0} → Item A → Item A → Type 0
MovedItem now then =
    (now ≡ then) ⊎ ((at i : ℕ) × (now ≡ not rule.WellCoded (at + i)) × (then ≡ not rule.WellCoded at) × (i % 2 ≡ 0))

abbrev Moved : {A : Type 0} → Way A → Way A → Type 0
Moved now then =
    (now ≡ then)
    ⊎ ((item : Name) × (at i : ℕ)
    × (now ≡ not (why item rule.WellCoded) (at + i)) × (then ≡ not (why item rule.WellCoded) at) × (i % 2 ≡ 0))

field_moved : (k : ℕ) (broken : List ℕ → Option Rule) (at : ℕ) (s : List ℕ) → MovedItem (field k broken at s) (field_before k broken at s)
field_moved k broken at s =
    by_test (ltb (length s) (at + width k))
    (λ b. inl (ap (λ c. pick c (not rule.There at) now) b ∙ sym (ap (λ c. pick c (not rule.There at) then) b)))
    (λ b. by (ltb-false (length s) (at + width k) b)
    (ap (λ c. pick c (not rule.There at) now) b) (ap (λ c. pick c (not rule.There at) then) b)
    (exactly k (decode 0 bytes)) refl)
  where
    bytes : List ℕ
    bytes = take (width k) (drop at s)

    now : Item (List ℕ)
    now = field_in k broken at (exactly k (decode 0 bytes))

    then : Item (List ℕ)
    then = field_in_before k broken at (exactly k (decode 0 bytes))

    by : at + width k ≤ length s → field k broken at s ≡ now → field_before k broken at s ≡ then
        → (x : Exact) → exactly k (decode 0 bytes) ≡ x → MovedItem (field k broken at s) (field_before k broken at s)
    by there e f (exact t) g = inl (e ∙ ap (field_in k broken at) g ∙ sym (f ∙ ap (field_in_before k broken at) g))
    by there e f (wrong_at i) g =
        inr (
          at,
          i,
          e ∙ ap (field_in k broken at) g,
          f ∙ ap (field_in_before k broken at) g,
          pair_even k bytes i (length_taken (width k) at s there) g,
        )

-- an item and what follows it
next_moved : {A B : Type 0} (name : Name) (now then : Item A) (rest rest' : A → ℕ → Way B) → MovedItem now then
    → ((a : A) (at : ℕ) → Moved (rest a at) (rest' a at)) → Moved (next name now rest) (next name then rest')
next_moved name (is a at) then rest rest' (inl e) on = subst (λ t. Moved (rest a at) (next name t rest')) e (on a at)
next_moved name (not r at) then rest rest' (inl e) on = inl (ap (λ t. next name t rest') e)
next_moved name now then rest rest' (inr (at, i, e, f, even)) on =
    inr (name, at, i, ap (λ t. next name t rest) e, ap (λ t. next name t rest') f, even)

pass_moved : {A B : Type 0} (now then : Way A) (rest : A → ℕ → Way B) → Moved now then → Moved (pass now rest) (pass then rest)
pass_moved now then rest (inl e) = inl (ap (λ w. pass w rest) e)
pass_moved now then rest (inr (name, at, i, e, f, even)) =
    inr (name, at, i, ap (λ w. pass w rest) e, ap (λ w. pass w rest) f, even)

pass_item : {A B : Type 0} (now then : Item A) (rest : A → ℕ → Item B) → MovedItem now then → MovedItem (pass now rest) (pass then rest)
pass_item now then rest (inl e) = inl (ap (λ w. pass w rest) e)
pass_item now then rest (inr (at, i, e, f, even)) = inr (at, i, ap (λ w. pass w rest) e, ap (λ w. pass w rest) f, even)

names_moved : (v : Version) (at : ℕ) (s : List ℕ) → Moved (names v at s) (names_before v at s)
names_moved three at s = next_moved item.Names _ _ _ _ (field_moved 9 in_nine at s) (λ t at. inl refl)
names_moved four at s =
    next_moved item.SignerAndLength _ _ _ _ (field_moved 6 in_six at s)
    (λ six at. next_moved (item.Reference (width (length_in six))) _ _ _ _ (field_moved (length_in six) in_reference at s) (λ t at. inl refl))

header_moved : (s : List ℕ) → Moved (header s) (header_before s)
unfolding header header_before
header_moved s =
    next_moved item.Mark (mark 0 s) (mark 0 s) _ _ (inl refl)
    (λ dc at. next_moved item.Version (version at s) (version at s) _ _ (inl refl)
    (λ v at. next_moved item.Country (country at s) (country_before at s) _ _
    (pass_item (field 3 in_country at s) (field_before 3 in_country at s) _ (field_moved 3 in_country at s))
    (λ c at. pass_moved (names v at s) (names_before v at s) _ (names_moved v at s))))

-- the verdicts of now and of then
pub only_the_place : (s : List ℕ)
    → (judge s ≡ judge_before s) ⊎ ((at i : ℕ) × (judge s ≡ refused 5 (at + i)) × (judge_before s ≡ refused 5 at) × (i % 2 ≡ 0))
unfolding judge judging reading judge_before
only_the_place s =
    by_test (ltb 4096 (length s))
    (λ b. inl (ap (λ c. verdict (pick c long now)) b ∙ sym (ap (λ c. verdict (pick c long then)) b)))
    (λ b. ⊎_elim
    (λ e. inl (ap (λ c. verdict (pick c long now)) b ∙ ap verdict e ∙ sym (ap (λ c. verdict (pick c long then)) b)))
    (λ m.
    let is_now = ap (λ c. verdict (pick c long now)) b ∙ ap verdict m.3 in
    let is_then = ap (λ c. verdict (pick c long then)) b ∙ ap verdict m.4 in
    inr (m.1, m.2, is_now, is_then, m.5))
    (pass_moved (header s) (header_before s) (after_header s) (header_moved s)))
  where
    long : Way Report
    long = not (why item.Seal rule.NotTooLong) 4096

    now : Way Report
    now = pass (header s) (after_header s)

    then : Way Report
    then = pass (header_before s) (after_header s)

abbrev Refused : Verdict → Type 0
Refused (accepted r) = ⊥
Refused (refused number place) = Unit

never_both : {number place : ℕ} (r : Report) → refused number place ≡ accepted r → ⊥
never_both r e = subst Refused e tt

-- what is accepted, and what is reported of it, is as it was
pub as_accepted : (s : List ℕ) (r : Report) → judge s ≡ accepted r → judge_before s ≡ accepted r
as_accepted s r e = ⊎_elim (λ same. sym same ∙ e) (λ m. absurd (never_both r (sym m.2 ∙ e))) (only_the_place s)

pub accepted_as : (s : List ℕ) (r : Report) → judge_before s ≡ accepted r → judge s ≡ accepted r
accepted_as s r e = ⊎_elim (λ same. same ∙ e) (λ m. absurd (never_both r (sym m.3 ∙ e))) (only_the_place s)
