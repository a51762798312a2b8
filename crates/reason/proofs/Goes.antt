-- A reading that goes on, or stops with its true reason: the one idea of the proof. What each item's reading gives is said of `is` and of
-- `not` at once, so that items are put together as the reader puts them together.
-- Assumes nothing.
use Rattle.std.specs.Prelude.{◌≡◌, refl, Bool, true, false, ℕ, ◌+◌, ◌-◌, ◌≤◌, ◌<◌, List, [], ◌∷◌, ◌++◌, ltb, length, take, drop, get_or}
use Rattle.std.proofs.Common.{ap, sym, subst, ◌∙◌, arith, add-zero, ltb-true, ltb-false, length-drop, get_or-take, get_or-drop, take_all}
use Rattle.format.specs.Bytes.{All}
use Rattle.format.specs.Choice.{pick}
use Rattle.causes.specs.declared.Item.{Item as Name}
use Rattle.causes.specs.declared.Rule.TheVariants as name
use Rattle.causes.specs.declared.Why.{Why}
use Rattle.rules.specs.Rules.{Rule, Keeps, Placed, called, size_of}
use Rattle.rules.specs.Layout.{Item as Part, rules_of, At, named}
use Rattle.rules.specs.Reason.{Reason, judged}
use Rattle.verdict.specs.Items.{Read, Item, Way, is, not, why, next, pass, whole, byte}
use Rattle.verdict.proofs.Items.Sound.{length_taken}
use Rattle.reason.specs.Judged.{judged_size}

-- a true reason, told by the names of its item and rule, by its place and by how many bytes were judged
pub record Told (s : List ℕ) (y : Why) (place : ℕ) : Type 0 where
  pub reason : Reason s
  pub item_is : named reason.item ≡ y.item
  pub rule_is : called reason.rule ≡ y.rule
  pub place_is : reason.place ≡ place
  pub judged_is : judged reason ≡ judged_size s y.item y.rule place

-- a reading that goes on, or stops with its true reason, which `names` names
abbrev pub Goes : {R A : Type 0} → List ℕ → (R → Why) → (A → ℕ → Type 0) → Read R A → Type 0
Goes s names Good (is a at) = Good a at
Goes s names Good (not r place) = Told s (names r) place

-- items that have their names
abbrev pub own : Why → Why
own y = y

pub goes_next : {A B : Type 0} (s : List ℕ) (item : Name) (Good : A → ℕ → Type 0) (Fine : B → ℕ → Type 0) (i : Item A) (k : A → ℕ → Way B)
    → Goes s (why item) Good i → ((a : A) (at : ℕ) → Good a at → Goes s own Fine (k a at)) → Goes s own Fine (next item i k)
goes_next s item Good Fine (is a at) k g each = each a at g
goes_next s item Good Fine (not r place) k g each = g

pub goes_pass : {R A B : Type 0} (s : List ℕ) (names : R → Why) (Good : A → ℕ → Type 0) (Fine : B → ℕ → Type 0) (i : Read R A)
    (k : A → ℕ → Read R B) → Goes s names Good i → ((a : A) (at : ℕ) → Good a at → Goes s names Fine (k a at))
    → Goes s names Fine (pass i k)
goes_pass s names Good Fine (is a at) k g each = each a at g
goes_pass s names Good Fine (not r place) k g each = g

pub goes_pick : {R A : Type 0} (s : List ℕ) (names : R → Why) (Good : A → ℕ → Type 0) (b : Bool) (x y : Read R A)
    → (b ≡ true → Goes s names Good x) → (b ≡ false → Goes s names Good y) → Goes s names Good (pick b x y)
goes_pick s names Good true x y f g = f refl
goes_pick s names Good false x y f g = g refl

-- how many of n bytes are there: all, or what is left
pub all_there : (n at : ℕ) (s : List ℕ) → at + n ≤ length s → length (take n (drop at s)) ≡ n
all_there n at s h = length_taken n at s h

pub some_there : (n at : ℕ) (s : List ℕ) → length s < at + n → length (take n (drop at s)) ≡ length s - at
some_there n at s h =
    ap length (take_all n (drop at s) (omega (arith, length-drop at s))) ∙ length-drop at s

-- the item that stands here breaks a rule, and keeps those before it
module _ {s : List ℕ} {i : Part} {at : ℕ} (way : At s i at) where
  pub fault_at : (earlier : List Rule) (rule : Rule) (later : List Rule) → earlier ++ (rule ∷ later) ≡ rules_of i → All (Keeps s at) earlier
      → (Keeps s at rule → ⊥) → (place : ℕ) → Placed s at rule place
      → length (take (size_of s at rule) (drop place s)) ≡ judged_size s (named i) (called rule) place
      → Told s (why (named i) (called rule)) place
  fault_at earlier rule later own kept broken place placed sized = record {
    reason = record {
      item = i;
      at = at;
      way = way;
      earlier = earlier;
      rule = rule;
      later = later;
      own = own;
      kept = kept;
      broken = broken;
      place = place;
      placed = placed;
    };
    item_is = refl;
    rule_is = refl;
    place_is = refl;
    judged_is = sized;
  }

  -- k bytes, and one byte
  pub goes_whole : {A : Type 0} (Good : A → ℕ → Type 0) (k : ℕ) (f : List ℕ → Item A) (later : List Rule) → Rule.there k ∷ later ≡ rules_of i
      → (at + k ≤ length s → Goes s (why (named i)) Good (f (take k (drop at s)))) → Goes s (why (named i)) Good (whole k at s f)
  goes_whole Good k f later own go =
      goes_pick s (why (named i)) Good (ltb (length s) (at + k)) (not name.There at) (f (take k (drop at s)))
      (λ e.
      let short = ltb-true (length s) (at + k) e in
      fault_at [] (Rule.there k) later own tt (λ h. omega arith) at refl (some_there k at s short))
      (λ e. go (ltb-false (length s) (at + k) e))

  pub goes_byte : {A : Type 0} (Good : A → ℕ → Type 0) (f : ℕ → Item A) (later : List Rule) → Rule.there 1 ∷ later ≡ rules_of i
      → (at + 1 ≤ length s → Goes s (why (named i)) Good (f (get_or s at 0))) → Goes s (why (named i)) Good (byte at s f)
  goes_byte Good f later own go =
      goes_whole Good 1 (λ b. f (get_or b 0 0)) later own (λ h. subst (λ x. Goes s (why (named i)) Good (f x)) (sym first) (go h))
    where
      first : get_or (take 1 (drop at s)) 0 0 ≡ get_or s at 0
      first = get_or-take 1 (drop at s) 0 0 (omega arith) ∙ get_or-drop at s 0 0 ∙ ap (λ n. get_or s n 0) (add-zero at)
