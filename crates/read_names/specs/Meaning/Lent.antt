-- What country and names leave in the memory that is lent for them: what was read, or what was there.
-- Assumes nothing.
use Rattle.std.proofs.Math.Path.{◌≡◌, ap}
use Rattle.std.specs.Prelude.{refl, ℕ, ◌+◌, ◌≤◌}
use Rattle.std.proofs.Common.{ap₂, sym, ◌∙◌, length-take, length-drop, take-add, drop_at}
use native.Mathlib.Omega.{arith}
use borrow.Author.Tests.{le-ltb}
use mathlib.Core.List.{List, ◌++◌, append_assoc}
use Rattle.std.proofs.Math.Dec.{ltb}
use Rattle.std.proofs.Math.ListN.{length, take, drop}
use Rattle.std.proofs.Math.Seq.{take_at, length-take-le}
use Rattle.format.specs.Choice.{pick}
use Rattle.format.specs.Buffer.{over}
use Rattle.octets.specs.Copy.{copied}
use Rattle.causes.specs.declared.Rule.{Rule}
use Rattle.causes.specs.declared.Why.{Why}
use Rattle.verdict.specs.Items.{Item, Way, is, not, Names}
use Rattle.verdict.proofs.Items.Laws.{unread}
use Rattle.read_items.specs.Meaning.{through, value_or}
use Rattle.read_names.specs.Meaning.{Measured, measured, text_over}
use Rattle.read_items.specs.declared.cursor.Refusal.{Refusal}

-- a text that was not read leaves what was there, and one that was read is there
pub step_kept : (old : List ℕ) (rule : Rule) (place : ℕ) (i : Item (List ℕ)) → not rule place ≡ i
    → (not rule place ≡ i) × (old ≡ value_or old i)
step_kept old rule place i e = (e, ap (value_or old) e)

pub step_given : (new old : List ℕ) (p : ℕ) (i : Item (List ℕ)) → is new p ≡ i → (is new p ≡ i) × (new ≡ value_or old i)
step_given new old p i e = (e, ap (value_or old) e)

-- names that were not read leave the text as it was
names_unread : (i : Way Names) (why : Why) (place : ℕ) → not why place ≡ through measured i → (old : List ℕ) → old ≡ text_over old i
names_unread (is n at) why place e old = absurd (unread why place (measured n) at e)
names_unread (not w p) why place e old = refl

pub names_kept : (old : List ℕ) (w : Refusal) (i : Way Names) → not w.why w.place ≡ through measured i
    → (not w.why w.place ≡ through measured i) × (old ≡ text_over old i)
names_kept old w i e = (e, names_unread i w.why w.place e old)

-- names that were read: their parts, and their sizes
pub record Found (found : List ℕ) (size p : ℕ) (i : Way Names) : Type 0 where
  pub names : Names
  pub read : i ≡ is names p
  pub signer : names.signer ≡ take 4 found
  pub reference : names.reference ≡ take size (drop 4 found)
  pub long : size ≡ length names.reference

abbrev parts_of : Measured → Way Measured → Measured
parts_of d (is m at) = m
parts_of d (not why place) = d

abbrev place_in : {A : Type 0} → Way A → ℕ
place_in (is m at) = at
place_in (not why place) = place

pub found_names : (found : List ℕ) (size p : ℕ) (i : Way Names)
    → is (record { length = size; names = record { signer = take 4 found; reference = take size (drop 4 found) } }) p ≡ through measured i
    → Found found size p i
found_names found size p (is n at) e =
    let m = ap (parts_of (measured n)) e in
    record {
      names = n;
      read = ap (is n) (sym (ap place_in e));
      signer = sym (ap (λ z. z.names.signer) m);
      reference = sym (ap (λ z. z.names.reference) m);
      long = ap (λ z. z.length) m;
    }
found_names found size p (not why place) e =
    absurd
    (unread why place (record { length = size; names = record { signer = take 4 found; reference = take size (drop 4 found) } }) p (sym e))

module _ (found : List ℕ) (size p : ℕ) (i : Way Names) (f : Found found size p i) (whole : length found ≡ 259) where
  pub found_room : 4 + size ≤ 259
  found_room =
      let cut : size ≡ length (take size (drop 4 found)) = f.long ∙ ap length f.reference in
      omega (arith, cut, length-take size (drop 4 found), length-drop 4 found)

  parts : take (4 + size) found ≡ f.names.signer ++ f.names.reference
  parts = take-add 4 size found ∙ ap₂ ◌++◌ (sym f.signer) (sym f.reference)

  -- copied to the start of a text, they are what is left there
  pub names_given :
      (old new : List ℕ) →
      length old ≡ 259 →
      new ≡ copied (take (4 + size) found) old 0 →
      (is (record { length = size; names = record { signer = take 4 new; reference = take size (drop 4 new) } }) p ≡ through measured i)
      × (new ≡ text_over old i)
  unfolding copied over
  names_given old new room e =
      let n = f.names in
      let text = n.signer ++ n.reference in
      let front = take (4 + size) found in
      let front_long : length front ≡ 4 + size = length-take-le (4 + size) found (omega (arith, found_room, whole)) in
      let fits : ltb (length old) (0 + length front) ≡ _ =
      le-ltb (length old) (0 + length front) (omega (arith, front_long, found_room, room)) in
      let none : 0 + length front ≡ length front = omega arith in
      let over_front : new ≡ front ++ drop (length front) old =
      e ∙ ap (λ b. pick b old (over old 0 front)) fits ∙ ap (λ k. front ++ drop k old) none in
      let over_text : new ≡ text ++ drop (length text) old = over_front ∙ ap (λ t. t ++ drop (length t) old) parts in
      let rest = drop (length text) old in
      let split : new ≡ n.signer ++ (n.reference ++ rest) = over_text ∙ append_assoc n.signer n.reference rest in
      let four_long : length n.signer ≡ 4 = ap length f.signer ∙ length-take-le 4 found (omega (arith, whole)) in
      let signer : take 4 new ≡ n.signer = ap (take 4) split ∙ take_at n.signer (n.reference ++ rest) 4 four_long in
      let reference : take size (drop 4 new) ≡ n.reference =
      ap (λ t. take size (drop 4 t)) split
      ∙ ap (take size) (drop_at n.signer (n.reference ++ rest) 4 four_long)
      ∙ take_at n.reference rest size (sym f.long) in
      let same : ◌≡◌ {A = Way Measured}
      (is (record { length = size; names = record { signer = take 4 new; reference = take size (drop 4 new) } }) p) (is (measured n) p) =
      λ j. is (record { length = f.long j; names = record { signer = signer j; reference = reference j } }) p in
      (same ∙ ap (through measured) (sym f.read), over_text ∙ ap (text_over old) (sym f.read))
