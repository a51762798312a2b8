-- Sound: a header that is read is legal, and its zone stands in front.
-- Assumes nothing.
use Rattle.std.specs.Prelude.{◌≡◌, ℕ, List, [], ◌∷◌, ◌++◌, map}
use Rattle.std.proofs.Common.{sym, subst, ◌∙◌, append-nil}
use Rattle.format.specs.Bytes.{Bytes}
use Rattle.c40.specs.Text.{publish as c40}
use Rattle.versions.specs.Versions.{version_byte}
use Rattle.grammar.specs.Content.{Version, Header}
use Rattle.grammar.specs.Publish.{carried, names as names_form, header_zone}
use Rattle.grammar.specs.Legal.{LastByte, LegalHeader}
use Rattle.grammar.proofs.Zones.{header_parts}
use Rattle.dates.specs.declared.Date.{Date}
use Rattle.dates.specs.Days.{Day, publish as published_day}
use Rattle.causes.specs.declared.Item.TheVariants as item
use Rattle.verdict.specs.Items.{Names, is, next, mark, version, country, names, date, last}
use Rattle.verdict.proofs.Items.Sound.{Stands, stands_append, steps, steps_on, same_value, same_place}
use Rattle.verdict.proofs.Items.Sound.{mark_read, version_read, last_read, date_read}
use Rattle.verdict.proofs.Items.FieldsSound.{country_read, names_read}
use Rattle.verdict.specs.Judge.{header}

-- a header of these fields
fields_of : Version → List ℕ → Names → Date → Date → ℕ → ℕ → Header
fields_of v c n issued signed definition category = record {
  version = v;
  country = c;
  signer = n.signer;
  reference = n.reference;
  issued = issued;
  signed = signed;
  definition = definition;
  category = category;
}

-- what was read from the dates on
record RestRead (v : Version) (c : List ℕ) (n : Names) (at : ℕ) (s : List ℕ) (h : Header) (end : ℕ) : Type 0 where
  issued : Date
  signed : Date
  definition : ℕ
  category : ℕ
  issued_day : Day issued
  signed_day : Day signed
  definition_last : LastByte definition
  category_last : LastByte category
  same : fields_of v c n issued signed definition category ≡ h
  there : Stands (published_day issued ++ (published_day signed ++ (definition ∷ category ∷ []))) at end s

rest_read :
    (v : Version) (c : List ℕ) (n : Names) (at : ℕ) (s : List ℕ) (h : Header) (end : ℕ) →
    Bytes s →
    next item.Issued (date at s)
    (λ issued at. next item.Signed (date at s)
    (λ signed at. next item.Definition (last at s)
    (λ definition at. next item.Category (last at s) (λ category at. is (fields_of v c n issued signed definition category) at))))
    ≡ is h end →
    RestRead v c n at s h end
rest_read v c n at s h end bytes e =
    let i0 = steps_on item.Issued (date at s) _ h end e in
    let i1 = steps_on item.Signed (date i0.at s) _ h end i0.goes_on_lem in
    let i2 = steps_on item.Definition (last i1.at s) _ h end i1.goes_on_lem in
    let i3 = steps_on item.Category (last i2.at s) _ h end i2.goes_on_lem in
    let r0 = date_read at s i0.value i0.at bytes i0.read in
    let r1 = date_read i0.at s i1.value i1.at bytes i1.read in
    let r2 = last_read i1.at s i2.value i2.at i2.read in
    let r3 = last_read i2.at s i3.value i3.at i3.read in
    let g = fields_of v c n i0.value i1.value i2.value i3.value in
    let place = same_place g h i3.at end i3.goes_on_lem in
    let a2 = stands_append _ _ _ _ _ s r2.1 r3.1 in
    let a1 = stands_append _ _ _ _ _ s r1.1 a2 in
    let a0 = stands_append _ _ _ _ _ s r0.1 a1 in
    record {
      issued = i0.value;
      signed = i1.value;
      definition = i2.value;
      category = i3.value;
      issued_day = r0.0;
      signed_day = r1.0;
      definition_last = r2.0;
      category_last = r3.0;
      same = same_value g h i3.at end i3.goes_on_lem;
      there =
          subst (λ k. Stands (published_day i0.value ++ (published_day i1.value ++ (i2.value ∷ i3.value ∷ []))) at k s) place a0;
    }

-- the parts of a header that stand one after another are its zone
zone_stands :
    (g : Header) (s : List ℕ) (a b c d end : ℕ) →
    Stands (0xDC ∷ []) 0 a s →
    Stands (version_byte g.version ∷ []) a b s →
    Stands (c40 (map carried g.country)) b c s →
    Stands (names_form g.version g.signer g.reference) c d s →
    Stands (published_day g.issued ++ (published_day g.signed ++ (g.definition ∷ g.category ∷ []))) d end s →
    Stands (header_zone g) 0 end s
zone_stands g s a b c d end mark version country names rest =
    let on3 = stands_append _ _ c d end s names rest in
    let on2 = stands_append _ _ b c end s country on3 in
    let on1 = stands_append _ _ a b end s version on2 in
    let on0 = stands_append _ _ 0 a end s mark on1 in
    subst (λ u. Stands u 0 end s) (sym (header_parts g []) ∙ append-nil (header_zone g)) on0

pub header_read : (s : List ℕ) (h : Header) (end : ℕ) → Bytes s → header s ≡ is h end → LegalHeader h × Stands (header_zone h) 0 end s
unfolding header fields_of
header_read s h end bytes e =
    let i0 = steps_on item.Mark (mark 0 s) _ h end e in
    let i1 = steps_on item.Version (version i0.at s) _ h end i0.goes_on_lem in
    let i2 = steps_on item.Country (country i1.at s) _ h end i1.goes_on_lem in
    let i3 = steps (names i1.value i2.at s) _ h end i2.goes_on_lem in
    let q = rest_read i1.value i2.value i3.value i3.at s h end bytes i3.goes_on_lem in
    let r0 = mark_read 0 s i0.value i0.at i0.read in
    let r1 = version_read i0.at s i1.value i1.at i1.read in
    let r2 = country_read i1.at s i2.value i2.at bytes i2.read in
    let r3 = names_read i1.value i2.at s i3.value i3.at bytes i3.read in
    let g = fields_of i1.value i2.value i3.value q.issued q.signed q.definition q.category in
    let legal : LegalHeader g =
    record {
      country = r2.0;
      signer = r3.0.signer;
      reference = r3.0.reference;
      size = r3.0.size;
      issued = q.issued_day;
      signed = q.signed_day;
      definition = q.definition_last;
      category = q.category_last;
    } in
    let there : Stands (header_zone g) 0 end s =
    zone_stands g s i0.at i1.at i2.at i3.at end r0 r1 r2.1 r3.1 q.there in
    (subst LegalHeader q.same legal, subst (λ (z : Header). Stands (header_zone z) 0 end s) q.same there)
