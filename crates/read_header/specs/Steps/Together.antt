-- The two steps of the header put together are the verdict's header, and what is known of the fields that were read.
-- Assumes nothing.
use Rattle.std.specs.Prelude.{◌≡◌, refl, ℕ, List, length}
use Rattle.std.proofs.Common.{sym, subst, ◌∙◌}
use Rattle.dates.specs.declared.Date.{Date}
use Rattle.grammar.specs.Content.{Version, Header}
use Rattle.causes.specs.declared.Item.{Item as Name}
use Rattle.causes.specs.declared.Item.TheVariants as item
use Rattle.verdict.specs.Items.{Item, Way, is, not, next, pass, mark, version, country, names, date, last, Names}
use Rattle.verdict.proofs.Items.Sound.{steps, steps_on, same_value}
use Rattle.read_names.specs.Meaning.{measured}
use Rattle.verdict.specs.Judge.{header}
use Rattle.read_header.specs.Steps.{Fields, Dated, fields, dated}

-- an item after another, and after that one more
next_next : {A B C : Type 0} (which : Name) (i : Item A) (f : A → ℕ → Way B) (g : B → ℕ → Way C)
    → pass (next which i f) g ≡ next which i (λ a at. pass (f a at) g)
next_next which (is a at) f g = refl
next_next which (not rule place) f g = refl

pass_pass : {A B C : Type 0} (i : Way A) (f : A → ℕ → Way B) (g : B → ℕ → Way C) → pass (pass i f) g ≡ pass i (λ a at. pass (f a at) g)
pass_pass (is a at) f g = refl
pass_pass (not why place) f g = refl

next_same : {A B : Type 0} (which : Name) (i : Item A) (f g : A → ℕ → Way B) → ((a : A) (at : ℕ) → f a at ≡ g a at)
    → next which i f ≡ next which i g
next_same which (is a at) f g e = e a at
next_same which (not rule place) f g e = refl

pass_same : {A B : Type 0} (i : Way A) (f g : A → ℕ → Way B) → ((a : A) (at : ℕ) → f a at ≡ g a at) → pass i f ≡ pass i g
pass_same (is a at) f g e = e a at
pass_same (not why place) f g e = refl

abbrev pub header_of : Fields → Dated → Header
header_of f d = record {
  version = f.version;
  country = f.country;
  signer = f.names.names.signer;
  reference = f.names.names.reference;
  issued = d.issued;
  signed = d.signed;
  definition = d.definition;
  category = d.category;
}

-- what follows each item, in the header and in the two steps
module _ (s : List ℕ) where
  abbrev pub with_dated : Fields → Dated → ℕ → Way Header
  with_dated f d at = is (header_of f d) at

  abbrev pub then_dated : Fields → ℕ → Way Header
  then_dated f at = pass (dated at s) (with_dated f)

  dated4 : Date → Date → ℕ → ℕ → ℕ → Way Dated
  dated4 issued signed definition category at =
      is (record { issued = issued; signed = signed; definition = definition; category = category }) at

  dated3 : Date → Date → ℕ → ℕ → Way Dated
  dated3 issued signed definition at = next item.Category (last at s) (dated4 issued signed definition)

  dated2 : Date → Date → ℕ → Way Dated
  dated2 issued signed at = next item.Definition (last at s) (dated3 issued signed)

  dated1 : Date → ℕ → Way Dated
  dated1 issued at = next item.Signed (date at s) (dated2 issued)

  fields4 : Version → List ℕ → Names → ℕ → Way Fields
  fields4 v c n at = is (record { version = v; country = c; names = measured n }) at

  fields3 : Version → List ℕ → ℕ → Way Fields
  fields3 v c at = pass (names v at s) (fields4 v c)

  fields2 : Version → ℕ → Way Fields
  fields2 v at = next item.Country (country at s) (fields3 v)

  fields1 : Unit {0} → ℕ → Way Fields
  fields1 dc at = next item.Version (version at s) fields2

  header8 : Version → List ℕ → Names → Date → Date → ℕ → ℕ → ℕ → Way Header
  header8 v c n issued signed definition category at =
      is
      (record {
        version = v;
        country = c;
        signer = n.signer;
        reference = n.reference;
        issued = issued;
        signed = signed;
        definition = definition;
        category = category;
      })
      at

  header7 : Version → List ℕ → Names → Date → Date → ℕ → ℕ → Way Header
  header7 v c n issued signed definition at = next item.Category (last at s) (header8 v c n issued signed definition)

  header6 : Version → List ℕ → Names → Date → Date → ℕ → Way Header
  header6 v c n issued signed at = next item.Definition (last at s) (header7 v c n issued signed)

  header5 : Version → List ℕ → Names → Date → ℕ → Way Header
  header5 v c n issued at = next item.Signed (date at s) (header6 v c n issued)

  header4 : Version → List ℕ → Names → ℕ → Way Header
  header4 v c n at = next item.Issued (date at s) (header5 v c n)

  header3 : Version → List ℕ → ℕ → Way Header
  header3 v c at = pass (names v at s) (header4 v c)

  header2 : Version → ℕ → Way Header
  header2 v at = next item.Country (country at s) (header3 v)

  header1 : Unit {0} → ℕ → Way Header
  header1 dc at = next item.Version (version at s) header2

  dated_step : (v : Version) (c : List ℕ) (n : Names) (at : ℕ)
      → pass (dated at s) (with_dated (record { version = v; country = c; names = measured n }))
      ≡ next item.Issued (date at s) (header5 v c n)
  unfolding dated dated1 dated2 dated3 dated4 header5 header6 header7 header8
  dated_step v c n at =
      let k = with_dated (record { version = v; country = c; names = measured n }) in
      next_next item.Issued (date at s) dated1 k
      ∙ next_same item.Issued (date at s) (λ i at. pass (dated1 i at) k) (header5 v c n)
      (λ i at. next_next item.Signed (date at s) (dated2 i) k
      ∙ next_same item.Signed (date at s) (λ g at. pass (dated2 i g at) k) (header6 v c n i)
      (λ g at. next_next item.Definition (last at s) (dated3 i g) k
      ∙ next_same item.Definition (last at s) (λ d at. pass (dated3 i g d at) k) (header7 v c n i g)
      (λ d at. next_next item.Category (last at s) (dated4 i g d) k
      ∙ next_same item.Category (last at s) (λ e at. pass (dated4 i g d e at) k) (header8 v c n i g d)
      (λ e at. refl))))

  pub header_split : pass (fields s) then_dated ≡ header s
  unfolding header fields header1 header2 header3 header4 header5 header6 header7 header8 fields1 fields2 fields3 fields4
  header_split =
      let k = then_dated in
      next_next item.Mark (mark 0 s) fields1 k
      ∙ next_same item.Mark (mark 0 s) (λ dc at. pass (fields1 dc at) k) header1
      (λ dc at. next_next item.Version (version at s) fields2 k
      ∙ next_same item.Version (version at s) (λ v at. pass (fields2 v at) k) header2
      (λ v at. next_next item.Country (country at s) (fields3 v) k
      ∙ next_same item.Country (country at s) (λ c at. pass (fields3 v c at) k) (header3 v)
      (λ c at. pass_pass (names v at s) (fields4 v c) k
      ∙ pass_same (names v at s) (λ n at. pass (fields4 v c n at) k) (header4 v c)
      (λ n at. dated_step v c n at))))

-- the fields that were read have the reference's length beside it
abbrev pub Known : Fields → Type 0
Known f = f.names.length ≡ length f.names.names.reference

known : (v : Version) (c : List ℕ) (n : Names) → Known (record { version = v; country = c; names = measured n })
known v c n = refl

pub fields_known : (s : List ℕ) (f : Fields) (at : ℕ) → is f at ≡ fields s → Known f
unfolding fields fields1 fields2 fields3 fields4
fields_known s f at e =
    let i0 = steps_on item.Mark (mark 0 s) (fields1 s) f at (sym e) in
    let i1 = steps_on item.Version (version i0.at s) (fields2 s) f at i0.goes_on_lem in
    let v = i1.value in
    let i2 = steps_on item.Country (country i1.at s) (fields3 s v) f at i1.goes_on_lem in
    let i3 = steps (names v i2.at s) (fields4 s v i2.value) f at i2.goes_on_lem in
    let g : Fields = record { version = v; country = i2.value; names = measured i3.value } in
    subst Known (same_value g f i3.at at i3.goes_on_lem) (known v i2.value i3.value)
