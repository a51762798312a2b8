-- The size of a seal before it is written: that the sum of its parts' sizes is the length of the published form.
-- Assumes nothing.
use Rattle.std.specs.Prelude.{◌≡◌, refl, true, false, ℕ, ◌+◌, ◌*◌, ◌/◌, ◌%◌, ◌≤◌, List, [], ◌∷◌, ◌++◌, map, eqb, leb, length, take, drop}
use Rattle.std.proofs.Common.{ap, ◌∙◌, arith, leb-true, append_assoc, length-append, length-drop, take-append-drop, length-take-le}
use Rattle.format.specs.Bytes.{All}
use Rattle.format.specs.Choice.{pick, both}
use Rattle.format.specs.Choice.Laws.{both_true}
use Rattle.format.specs.Hex.{hex_digit}
use Rattle.c40.specs.Text.{publish as c40}
use Rattle.c40.specs.Text.Laws.{length_publish}
use Rattle.dates.specs.Days.{publish as date}
use Rattle.dates.proofs.Days.Laws.{length_publish as length_date}
use Rattle.der.specs.Length.{form}
use Rattle.grammar.specs.Content.{Version, three, four}
use Rattle.grammar.specs.Publish.{carried, names, length_of, feature, header_zone, message_zone, signature_zone, signed_bytes, publish}
use Rattle.fields.specs.Characters.{is_signer, is_country}
use Rattle.fields.specs.declared.Header.{Header}
use Rattle.verdict.specs.Report.{feature_of}
use Rattle.verdict.specs.Judge.{used}
use Rattle.rows.specs.declared.Row.{Row}
use Rattle.rows.specs.Rows.{rows_of, is_whole}
use Rattle.write_given.specs.Tests.Laws.{size_three, size_four}
use Rattle.write_given.specs.Tests.{is_text_size}
use Rattle.write_given.specs.Given.{three_of, Given, content_as}
use Rattle.write_rows.specs.Tests.{is_row, are_rows, is_table}
use Rattle.write_size.specs.SealSize.{rows_size, names_size, seal_size}
use Rattle.write_judge.specs.Needs.{Named, Headed, front, rest, spelled}

-- the characters of version 4's names
pub length_spelled : (text : List ℕ) → 4 ≤ length text → length (spelled text) ≡ length text + 2
length_spelled text h =
    let first : length (take 4 text) ≡ 4 = length-take-le 4 text h in
    let n = length (drop 4 text) in
    omega (
      arith,
      length-append (take 4 text ++ (hex_digit (n / 16) ∷ hex_digit (n % 16) ∷ [])) (drop 4 text),
      length-append (take 4 text) (hex_digit (n / 16) ∷ hex_digit (n % 16) ∷ []),
      length-drop 4 text,
    )

-- signer and reference, by version
pub names_three : (v : Version) (t : List ℕ) → v ≡ three → names v (take 4 t) (drop 4 t) ≡ c40 t
names_three v t e = ap (λ w. names w (take 4 t) (drop 4 t)) e ∙ ap c40 (take-append-drop 4 t)

pub names_four : (v : Version) (t : List ℕ) → v ≡ four → names v (take 4 t) (drop 4 t) ≡ c40 (spelled t)
names_four v t e = ap (λ w. names w (take 4 t) (drop 4 t)) e

-- the features of rows
pub zone_none : (v : Version) (values : List ℕ) → message_zone v (map (feature_of values) []) ≡ []
unfolding message_zone
zone_none v values = refl

pub zone_cons :
    (v : Version) (values : List ℕ) (r : Row) (rows : List Row) →
    message_zone v (map (feature_of values) (r ∷ rows)) ≡ feature v (feature_of values r) ++ message_zone v (map (feature_of values) rows)
unfolding message_zone
zone_cons v values r rows = refl

-- what the judged names say
pub headed_country : (v : Version) (h : Header) (t : List ℕ) → Headed v h t → is_country 60 h.country ≡ true
headed_country v h t d = (both_true (is_country 60 h.country) _ d).0

pub headed_named : (v : Version) (h : Header) (t : List ℕ) → Headed v h t → Named v t
headed_named v h t d =
    let a = both_true (is_country 60 h.country) _ d in
    let b = both_true (both (is_text_size v (length t)) (eqb (h.length + 4) (length t))) _ a.1 in
    let s = both_true (is_text_size v (length t)) _ b.0 in
    let n = both_true (is_signer (take 4 t)) _ b.1 in
    record { size = s.0; signer = n.0; reference = n.1 }

-- sizes of the header's parts
code_size : (t : List ℕ) → length (c40 (map carried (three_of t))) ≡ 2
code_size t = length_publish (map carried (three_of t))

length_names : (v : Version) (t : List ℕ) → is_text_size v (length t) ≡ true → length (names v (take 4 t) (drop 4 t)) ≡ names_size v (length t)
length_names three t s =
    let nine = size_three three (length t) refl s in
    let six : length (c40 t) ≡ 6 = omega (arith, length_publish t) in
    ap length (names_three three t refl) ∙ six
length_names four t s =
    let least = size_four four (length t) refl s in
    let long : length (c40 (spelled t)) ≡ (length t + 4) / 3 * 2 =
    omega (arith, length_publish (spelled t), length_spelled t (omega arith)) in
    ap length (names_four four t refl) ∙ long

pub length_front_lem : (v : Version) (h : Header) (t : List ℕ) → Headed v h t → length (front v h t) ≡ 4 + names_size v (length t)
length_front_lem v h t d =
    let n = names v (take 4 t) (drop 4 t) in
    omega (
      arith,
      length-append (c40 (map carried (three_of h.country))) n,
      code_size h.country,
      length_names v t (headed_named v h t d).size,
    )

pub length_rest : (h : Header) → length (rest h) ≡ 8
length_rest h =
    let last : List ℕ = h.definition ∷ h.category ∷ [] in
    omega (
      arith,
      length-append (date h.issued) (date h.signed ++ last),
      length-append (date h.signed) last,
      length_date h.issued,
      length_date h.signed,
    )

-- the rows that were judged
abbrev pub Inside : ℕ → Row → Type 0
Inside n r = (r.tag ≤ 254) × (r.place + r.size ≤ n)

rows_inside : (n : ℕ) (before rows : List Row) → are_rows n before rows ≡ true → All (Inside n) rows
unfolding are_rows
rows_inside n before [] e = tt
rows_inside n before (r ∷ rows) e =
    let b = both_true (is_row n before r) (are_rows n (r ∷ before) rows) e in
    let t = both_true (leb r.tag 254) _ b.0 in
    let u = both_true (pick (used r.tag before) false true) _ t.1 in
    ((leb-true r.tag 254 t.0, leb-true (r.place + r.size) n u.1), rows_inside n (r ∷ before) rows b.1)

zone_size :
    (v : Version) (values : List ℕ) (rows : List Row) →
    All (Inside (length values)) rows →
    length (message_zone v (map (feature_of values) rows)) ≡ rows_size v rows
unfolding rows_size
zone_size v values [] a = ap length (zone_none v values)
zone_size v values (r ∷ rows) a =
    let ih = zone_size v values rows a.1 in
    let value = take r.size (drop r.place values) in
    let long : length value ≡ r.size =
    length-take-le r.size (drop r.place values) (omega (arith, a.0.1, length-drop r.place values)) in
    let f = feature v (feature_of values r) in
    let part : length f ≡ 1 + length (length_of v r.size) + r.size =
    omega (arith, length-append (length_of v (length value)) value, ap (λ k. length (length_of v k)) long) in
    ap length (zone_cons v values r rows) ∙ length-append f (message_zone v (map (feature_of values) rows)) ∙ omega arith

-- the published form, part by part
pub seal_parts :
    (v : Version) (g : Given) →
    publish (content_as g v)
    ≡ front v g.header g.text
    ++ (rest g.header
    ++ (message_zone v (map (feature_of g.values) (rows_of g.table)) ++ feature four (record { tag = 0xFF; value = g.signature })))
unfolding publish signed_bytes header_zone signature_zone content_as
seal_parts v g = simp append_assoc

module _ (v : Version) (g : Given) (h : Headed v g.header g.text) (table : is_table (length g.values) g.table ≡ true) where
  pub inside : All (Inside (length g.values)) (rows_of g.table)
  inside =
      let n = length g.values in
      let rows = rows_of g.table in
      rows_inside n [] rows (both_true (is_whole g.table) (are_rows n [] rows) table).1

  pub length_seal : length (publish (content_as g v)) ≡ seal_size v (length g.text) (rows_of g.table) (length g.signature)
  length_seal =
      let a = front v g.header g.text in
      let b = rest g.header in
      let z = message_zone v (map (feature_of g.values) (rows_of g.table)) in
      let s = feature four (record { tag = 0xFF; value = g.signature }) in
      ap length (seal_parts v g)
      ∙ omega (
        arith,
        length-append a (b ++ (z ++ s)),
        length-append b (z ++ s),
        length-append z s,
        length-append (form (length g.signature)) g.signature,
        length_front_lem v g.header g.text h,
        length_rest g.header,
        zone_size v g.values (rows_of g.table) inside,
      )
