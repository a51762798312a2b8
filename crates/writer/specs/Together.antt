-- Laws of the whole seal: what its judged parts say, its size as a sum, and its parts put down one after another.
-- Assumes nothing.
use Rattle.std.specs.Prelude.{◌≡◌, refl, true, ℕ, ◌+◌, ◌≤◌, List, [], ◌∷◌, ◌++◌, map, leb, length, take, drop, set}
use Rattle.std.proofs.Common.{ap, sym, subst, ◌∙◌, arith, zero-add, length-append, length-set}
use Rattle.format.specs.Bytes.{All}
use Rattle.format.specs.Choice.{both}
use Rattle.format.specs.Buffer.{over}
use Rattle.format.proofs.Buffer.Laws.{length_over, over_over, over_two, Held, held_more}
use Rattle.c40.specs.Text.{publish as c40}
use Rattle.c40.specs.Text.Laws.{length_publish}
use Rattle.dates.specs.Days.{is_day, publish as date}
use Rattle.dates.proofs.Days.Laws.{length_publish as length_date}
use Rattle.grammar.specs.Content.{Version, four}
use Rattle.versions.specs.Versions.{version_byte}
use Rattle.grammar.specs.Publish.{carried, names, feature, message_zone, publish}
use Rattle.format.specs.Choice.Laws.{both_true, within_both}
use Rattle.verdict.specs.Report.{feature_of}
use Rattle.rows.specs.declared.Row.{Row}
use Rattle.rows.specs.Rows.{rows_of}
use Rattle.fields.specs.Signature.{is_signature}
use Rattle.verdict.proofs.Judge.Complete.{size_small}
use Rattle.verdict.proofs.Judge.Sound.{size_of}
use Rattle.fields.specs.declared.Header.{Header}
use Rattle.write_rows.specs.Tests.Laws.{sized_head}
use Rattle.write_rows.specs.Tests.{are_sized}
use Rattle.write_given.specs.Given.{three_of, Given, content_as}
use Rattle.write_judge.specs.Needs.{Room, Fitting, Dated, front, rest, Passed}
use Rattle.write_size.specs.SealSize.{rows_size}
use Rattle.write_judge.specs.Size.{length_rest, Inside, inside, seal_parts, length_seal}

-- the front put down
module _ (v : Version) (h : Header) (t out : List ℕ) (room : Room out 0 (front v h t)) (b : ℕ) (is_byte_lem : b ≡ version_byte v) where
  abbrev code : List ℕ
  code = c40 (map carried (three_of h.country))

  code_two : length code ≡ 2
  code_two = length_publish (map carried (three_of h.country))

  pub front_room : 4 ≤ length (set (set out 0 0xDC) 1 b)
  front_room =
      omega (
        arith,
        length-append code (names v (take 4 t) (drop 4 t)),
        code_two,
        length-set (set out 0 0xDC) 1 b,
        length-set out 0 0xDC,
      )

  module _ (out1 : List ℕ) (at1 : ℕ) (to : at1 ≡ 4)
      (put : out1 ≡ over (set (set out 0 0xDC) 1 b) 2 (c40 (map carried (three_of h.country)))) where
    first : Held out (set (set out 0 0xDC) 1 b) 2 (0xDC ∷ b ∷ [])
    first = record {
      many = refl;
      is = over_two out 0 0xDC b (omega (arith, length-append code (names v (take 4 t) (drop 4 t))));
    }

    sum : length (front v h t) ≡ at1 + length (names v (take 4 t) (drop 4 t))
    sum = omega (arith, length-append code (names v (take 4 t) (drop 4 t)), code_two)

    second : Held out out1 at1 (0xDC ∷ b ∷ code)
    second =
        held_more out (set (set out 0 0xDC) 1 b) 2 (0xDC ∷ b ∷ []) first code out1 at1 put (omega (arith, code_two)) (omega (arith, sum))

    pub names_room : Room out1 at1 (names v (take 4 t) (drop 4 t))
    names_room = omega (arith, sum, ap length second.is ∙ length_over out 0 (0xDC ∷ b ∷ code) (omega (arith, second.many, sum)))

    pub put_front :
        (out2 : List ℕ) (at2 : ℕ) →
        at2 ≡ at1 + length (names v (take 4 t) (drop 4 t)) →
        out2 ≡ over out1 at1 (names v (take 4 t) (drop 4 t)) →
        (at2 ≡ length (front v h t)) × (out2 ≡ over out 0 (front v h t))
    put_front out2 at2 e2 o2 =
        let n = names v (take 4 t) (drop 4 t) in
        let third = held_more out out1 at1 (0xDC ∷ b ∷ code) second n out2 at2 o2 (sym e2) (omega (arith, sum)) in (
          omega (arith, sum),
          third.is ∙ ap (λ x. over out 0 (0xDC ∷ x ∷ (code ++ n))) is_byte_lem,
        )

-- a part after a part
pub over_then :
    (out : List ℕ) (at : ℕ) (p q out1 : List ℕ) (at1 : ℕ) (out2 : List ℕ) →
    Room out at (p ++ q) →
    out1 ≡ over out at p →
    at1 ≡ at + length p →
    out2 ≡ over out1 at1 q →
    out2 ≡ over out at (p ++ q)
over_then out at p q out1 at1 out2 room o1 e1 o2 =
    o2 ∙ ap (λ o. over o at1 q) o1 ∙ ap (λ k. over (over out at p) k q) e1 ∙ over_over out at p q (omega (arith, length-append p q))

pub then_room :
    (out : List ℕ) (at : ℕ) (p q out1 : List ℕ) (at1 : ℕ) →
    Room out at (p ++ q) →
    out1 ≡ over out at p →
    at1 ≡ at + length p →
    Room out1 at1 q
then_room out at p q out1 at1 room o1 e1 =
    omega (arith, length-append p q, ap length o1 ∙ length_over out at p (omega (arith, length-append p q)))

pub front_part : (out : List ℕ) (at : ℕ) (p q : List ℕ) → Room out at (p ++ q) → Room out at p
front_part out at p q room = omega (arith, length-append p q)

-- the rows that were judged
short_fit :
    (v : Version) (n : ℕ) (rows : List Row) →
    All (Inside n) rows →
    rows_size v rows ≤ 4096 →
    are_sized v rows ≡ true →
    Fitting v n rows
unfolding rows_size
short_fit v n [] a h s = tt
short_fit v n (r ∷ rows) a h s =
    let b = sized_head v r rows s in
    let ih = short_fit v n rows a.1 (omega arith) b.1 in
    ((a.0.0, a.0.1, (omega arith, b.0)), ih)

pub passed_fit : (v : Version) (g : Given) → Passed v g → Fitting v (length g.values) (rows_of g.table)
passed_fit v g p =
    let size = length_seal v g p.header p.table in
    short_fit v (length g.values) (rows_of g.table) (inside v g p.header p.table) (omega (arith, p.size)) p.values

-- a signature's length
pub signature_most : (n : ℕ) → is_signature n ≡ true → n ≤ 132
signature_most n e = size_small n (size_of n e)

-- both dates and the last two bytes
pub dated_days : (h : Header) → Dated h → (is_day h.issued ≡ true) × (is_day h.signed ≡ true)
dated_days h d = both_true (is_day h.issued) (is_day h.signed) d.days

pub dated_last : (h : Header) → Dated h → (h.definition ≤ 254) × (h.category ≤ 254)
dated_last h d =
    let b = both_true (both (leb 1 h.definition) (leb h.definition 254)) _ d.last in
    ((within_both 1 254 h.definition b.0).1, (within_both 1 254 h.category b.1).1)

-- the header's last items put down
module _ (h : Header) (out : List ℕ) (at : ℕ) (room : Room out at (rest h)) (out1 : List ℕ) (at1 : ℕ) (e1 : at1 ≡ at + 3)
    (o1 : out1 ≡ over out at (date h.issued)) where
  abbrev last : List ℕ
  last = h.definition ∷ h.category ∷ []

  sum1 : at1 ≡ at + length (date h.issued)
  sum1 = omega (arith, length_date h.issued)

  room1 : Room out1 at1 (date h.signed ++ last)
  room1 = then_room out at (date h.issued) (date h.signed ++ last) out1 at1 room o1 sum1

  pub rest_second : Room out1 at1 (date h.signed)
  rest_second = front_part out1 at1 (date h.signed) last room1

  module _ (out2 : List ℕ) (at2 : ℕ) (e2 : at2 ≡ at1 + 3) (o2 : out2 ≡ over out1 at1 (date h.signed)) where
    sum2 : at2 ≡ at1 + length (date h.signed)
    sum2 = omega (arith, length_date h.signed)

    pub rest_last : at2 + 2 ≤ length out2
    rest_last = then_room out1 at1 (date h.signed) last out2 at2 room1 o2 sum2

    pub put_rest : (at2 + 2 ≡ at + 8) × (set (set out2 at2 h.definition) (at2 + 1) h.category ≡ over out at (rest h))
    put_rest = (
      omega arith,
      over_then out at (date h.issued) (date h.signed ++ last) out1 at1 (set (set out2 at2 h.definition) (at2 + 1) h.category)
          room o1 sum1
          (over_then out1 at1 (date h.signed) last out2 at2 (set (set out2 at2 h.definition) (at2 + 1) h.category) room1 o2 sum2
          (over_two out2 at2 h.definition h.category rest_last)),
    )

-- the seal's parts put down
module _ (v : Version) (g : Given) (out : List ℕ) (room : Room out 0 (publish (content_as g v))) where
  abbrev zone : List ℕ
  zone = message_zone v (map (feature_of g.values) (rows_of g.table))

  abbrev mark : List ℕ
  mark = feature four (record { tag = 0xFF; value = g.signature })

  whole_room : Room out 0 (front v g.header g.text ++ (rest g.header ++ (zone ++ mark)))
  whole_room = subst (Room out 0) (seal_parts v g) room

  pub seal_front : Room out 0 (front v g.header g.text)
  seal_front = front_part out 0 (front v g.header g.text) (rest g.header ++ (zone ++ mark)) whole_room

  module _ (out1 : List ℕ) (at1 : ℕ) (e1 : at1 ≡ length (front v g.header g.text))
      (o1 : out1 ≡ over out 0 (front v g.header g.text)) where
    zero_first : at1 ≡ 0 + length (front v g.header g.text)
    zero_first = e1 ∙ sym (zero-add (length (front v g.header g.text)))

    past_front : Room out1 at1 (rest g.header ++ (zone ++ mark))
    past_front = then_room out 0 (front v g.header g.text) (rest g.header ++ (zone ++ mark)) out1 at1 whole_room o1 zero_first

    pub seal_rest : Room out1 at1 (rest g.header)
    seal_rest = front_part out1 at1 (rest g.header) (zone ++ mark) past_front

    module _ (out2 : List ℕ) (at2 : ℕ) (e2 : at2 ≡ at1 + 8) (o2 : out2 ≡ over out1 at1 (rest g.header)) where
      eight : at2 ≡ at1 + length (rest g.header)
      eight = e2 ∙ ap (λ n. at1 + n) (sym (length_rest g.header))

      past_rest : Room out2 at2 (zone ++ mark)
      past_rest = then_room out1 at1 (rest g.header) (zone ++ mark) out2 at2 past_front o2 eight

      pub seal_rows : Room out2 at2 (message_zone v (map (feature_of g.values) (rows_of g.table)))
      seal_rows = front_part out2 at2 zone mark past_rest

      module _ (out3 : List ℕ) (at3 : ℕ) (e3 : at3 ≡ at2 + length (message_zone v (map (feature_of g.values) (rows_of g.table))))
          (o3 : out3 ≡ over out2 at2 (message_zone v (map (feature_of g.values) (rows_of g.table)))) where
        pub seal_mark : Room out3 at3 (feature four (record { tag = 0xFF; value = g.signature }))
        seal_mark = then_room out2 at2 zone mark out3 at3 past_rest o3 e3

        pub put_seal :
            (out4 : List ℕ) →
            out4 ≡ over out3 at3 (feature four (record { tag = 0xFF; value = g.signature })) →
            out4 ≡ over out 0 (publish (content_as g v))
        put_seal out4 o4 =
            let third = over_then out2 at2 zone mark out3 at3 out4 past_rest o3 e3 o4 in
            let second = over_then out1 at1 (rest g.header) (zone ++ mark) out2 at2 out4 past_front o2 eight third in
            over_then out 0 (front v g.header g.text) (rest g.header ++ (zone ++ mark)) out1 at1 out4 whole_room o1 zero_first
            second
            ∙ ap (over out 0) (sym (seal_parts v g))
