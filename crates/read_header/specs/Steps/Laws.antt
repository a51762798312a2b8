-- The steps item by item, one law for each answer.
-- Assumes nothing.
use Rattle.std.specs.Prelude.{◌≡◌, ℕ, List}
use Rattle.std.proofs.Math.Path.{refl, sym}
use Rattle.std.proofs.Common.{ap, ◌∙◌}
use Rattle.dates.specs.declared.Date.{Date}
use Rattle.versions.specs.declared.Version.{Version}
use Rattle.causes.specs.declared.Item.TheVariants as item
use Rattle.causes.specs.declared.Rule.{Rule}
use Rattle.causes.specs.declared.Why.{Why}
use Rattle.verdict.specs.Items.{Read, Way, is, not, why, pass, mark, version, country, names, date, last, Names}
use Rattle.read_items.specs.Meaning.{through, value_or}
use Rattle.read_names.specs.Meaning.{Measured, measured, text_over}
use Rattle.read_header.specs.Steps.{Fields, fields, code_in, names_in, dated}

-- what follows an item that is seen through a map
through_next : {R A B C : Type 0} (f : A → B) (i : Read R A) (k : B → ℕ → Read R C) → pass (through f i) k ≡ pass i (λ a at. k (f a) at)
through_next f (is a at) k = refl
through_next f (not why place) k = refl

-- the names of fields that end with them
names_back_lem : (v : Version) (c : List ℕ) (i : Way Names)
    → i ≡ through names_in (pass i (λ n at. is (record { version = v; country = c; names = measured n }) at))
names_back_lem v c (is n at) = refl
names_back_lem v c (not why place) = refl

-- the lent country and text stay where the fields are not read, and the country is theirs where they are
pub code_kept : (s : List ℕ) (why : Why) (place : ℕ) → not why place ≡ fields s → (code : List ℕ) →
    code ≡ value_or code (through code_in (fields s))
code_kept s why place e code = ap (λ i. value_or code (through code_in i)) e

pub code_given : (s : List ℕ) (f : Fields) (at : ℕ) → is f at ≡ fields s → (code : List ℕ) →
    f.country ≡ value_or code (through code_in (fields s))
code_given s f at e code = ap (λ i. value_or code (through code_in i)) e

pub text_kept : (s : List ℕ) (why : Why) (place : ℕ) → not why place ≡ fields s → (text : List ℕ)
    → text ≡ text_over text (through names_in (fields s))
text_kept s why place e text = ap (λ i. text_over text (through names_in i)) e

-- the fields up to the reference
module _ (s : List ℕ) where
  pub fields_mark : (rule : Rule) (place : ℕ) → not rule place ≡ mark 0 s → not (why item.Mark rule) place ≡ fields s
  unfolding fields
  fields_mark rule place e0 = rw (sym e0) refl

  module _ (p0 : ℕ) (e0 : is tt p0 ≡ mark 0 s) where
    pub fields_version : (rule : Rule) (place : ℕ) → not rule place ≡ version p0 s → not (why item.Version rule) place ≡ fields s
    unfolding fields
    fields_version rule place e1 = rw (sym e0, sym e1) refl

    module _ (v : Version) (p1 : ℕ) (e1 : is v p1 ≡ version p0 s) where
      pub fields_country : (rule : Rule) (place : ℕ) → not rule place ≡ country p1 s → not (why item.Country rule) place ≡ fields s
      unfolding fields
      fields_country rule place e2 = rw (sym e0, sym e1, sym e2) refl

      module _ (c : List ℕ) (p2 : ℕ) (e2 : is c p2 ≡ country p1 s) where
        abbrev with_names : Measured → ℕ → Way Fields
        with_names m at = is (record { version = v; country = c; names = m }) at

        after_country_lem : pass (through measured (names v p2 s)) with_names ≡ fields s
        unfolding fields
        after_country_lem = rw (sym e0, sym e1, sym e2) (through_next measured (names v p2 s) with_names)

        pub names_reached : names v p2 s ≡ through names_in (fields s)
        unfolding fields
        names_reached = rw (sym e0, sym e1, sym e2) (names_back_lem v c (names v p2 s))

        pub fields_names : (why : Why) (place : ℕ) → not why place ≡ through measured (names v p2 s) → not why place ≡ fields s
        fields_names why place e3 = ap (λ i. pass i with_names) e3 ∙ after_country_lem

        pub fields_all :
            (m : Measured) (p3 : ℕ) →
            is m p3 ≡ through measured (names v p2 s) →
            is (record { version = v; country = c; names = m }) p3 ≡ fields s
        fields_all m p3 e3 = ap (λ i. pass i with_names) e3 ∙ after_country_lem

-- the fields from the dates on
module _ (s : List ℕ) (at : ℕ) where
  pub dated_issued : (rule : Rule) (place : ℕ) → not rule place ≡ date at s → not (why item.Issued rule) place ≡ dated at s
  unfolding dated
  dated_issued rule place e0 = rw (sym e0) refl

  module _ (issued : Date) (p0 : ℕ) (e0 : is issued p0 ≡ date at s) where
    pub dated_signed : (rule : Rule) (place : ℕ) → not rule place ≡ date p0 s → not (why item.Signed rule) place ≡ dated at s
    unfolding dated
    dated_signed rule place e1 = rw (sym e0, sym e1) refl

    module _ (signed : Date) (p1 : ℕ) (e1 : is signed p1 ≡ date p0 s) where
      pub dated_definition : (rule : Rule) (place : ℕ) → not rule place ≡ last p1 s → not (why item.Definition rule) place ≡ dated at s
      unfolding dated
      dated_definition rule place e2 = rw (sym e0, sym e1, sym e2) refl

      module _ (definition p2 : ℕ) (e2 : is definition p2 ≡ last p1 s) where
        pub dated_category : (rule : Rule) (place : ℕ) → not rule place ≡ last p2 s → not (why item.Category rule) place ≡ dated at s
        unfolding dated
        dated_category rule place e3 = rw (sym e0, sym e1, sym e2, sym e3) refl

        pub dated_all :
            (category p3 : ℕ) →
            is category p3 ≡ last p2 s →
            is (record { issued = issued; signed = signed; definition = definition; category = category }) p3 ≡ dated at s
        unfolding dated
        dated_all category p3 e3 = rw (sym e0, sym e1, sym e2, sym e3) refl
