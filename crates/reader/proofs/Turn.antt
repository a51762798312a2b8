-- One turn of the loop that puts the rows, on plain values: the rows before stand in the table, and those that are left
-- are read from the place on.
-- Assumes nothing.
use mathlib.Core.Path.{◌≡◌, refl, ap, ap₂, sym, subst, ◌∙◌}
use Prim.Native.Nat.{ℕ, zero, suc, ◌+◌, ◌*◌, ◌≤◌, ◌<◌}
use native.Mathlib.Omega.{arith}
use mathlib.Core.List.{List, [], ◌∷◌, ◌++◌, append_assoc, append-nil}
use lib.ListN.{length}
use Rattle.format.proofs.Buffer.Laws.{Held, held_start, held_more, held_length, over_start}
use Rattle.grammar.specs.Content.{Version}
use Rattle.causes.specs.declared.Item.TheVariants as item
use Rattle.causes.specs.declared.Rule.{Rule}
use Rattle.causes.specs.declared.Rule.TheVariants as rule
use Rattle.verdict.specs.Items.{Way, is, not, next, pass, whole, byte, plain_in, feature_length}
use Rattle.verdict.proofs.Items.Laws.{unread, whole_read}
use Rattle.verdict.proofs.Items.Sound.{steps, steps_on, same_value, same_place}
use Rattle.read_items.specs.Meaning.{through}
use Rattle.rows.specs.declared.Row.{Row}
use Rattle.rows.specs.Rows.{width, numbers, row_of, row_put, table}
use Rattle.rows.proofs.Rows.Laws.{length_numbers, table_end, put_row}
use Rattle.verdict.specs.Judge.{value_in, row}
use Rattle.reading.specs.Calls.{then}
use Rattle.reading.specs.FeatureRows.{rows_at, rows_read, AreRead}

-- rows that are read, with the place after them
record Ended (i : Way (List Row)) : Type 0 where
  end : ℕ
  is_read : i ≡ is (rows_read i) end

ended : (i : Way (List Row)) → AreRead i → Ended i
ended (is rows end) a = record { end = end; is_read = refl }
ended (not why place) a = absurd a

-- the parts of a row that was read
record RowParts (v : Version) (x start at : ℕ) (s : List ℕ) (r : Row) (after : ℕ) : Type 0 where
  n : ℕ
  value : ℕ
  sized : feature_length v at s ≡ is n value
  there : value + n ≤ length s
  is_row : row_of x start value n ≡ r
  reached : value + n ≡ after

row_parts : (v : Version) (x start at : ℕ) (s : List ℕ) (r : Row) (after : ℕ) → row v x start at s ≡ is r after →
    RowParts v x start at s r after
unfolding row
row_parts v x start at s r after e =
    let k = steps_on item.Length (feature_length v at s) (λ n at. next item.Value (whole n at s (value_in x start n at)) is) r after e in
    let n = k.value in
    let m = k.at in
    let j = steps_on item.Value (whole n m s (value_in x start n m)) is r after k.goes_on_lem in
    let w = whole_read n m s (value_in x start n m) j.value j.at j.read in
    let q : Row = row_of x start m n in
    record {
      n = n;
      value = m;
      sized = k.read;
      there = w.there;
      is_row = same_value q j.value (m + n) j.at w.read ∙ same_value j.value r j.at after j.goes_on_lem;
      reached = same_place q j.value (m + n) j.at w.read ∙ same_place j.value r j.at after j.goes_on_lem;
    }

-- the rows that are left after one: what the map that puts it in front was given
record Behind (r : Row) (i : Way (List Row)) (rest : List Row) (end : ℕ) : Type 0 where
  others : List Row
  is_read : i ≡ is others end
  in_front : r ∷ others ≡ rest

behind : (r : Row) (i : Way (List Row)) (rest : List Row) (end : ℕ) → through (λ rows. r ∷ rows) i ≡ is rest end → Behind r i rest end
behind r (is rows at) rest end e =
    record { others = rows; is_read = ap (is rows) (same_place (r ∷ rows) rest at end e); in_front = same_value (r ∷ rows) rest at end e }
behind r (not why place) rest end e = absurd (unread why place rest end e)

-- the next row, and those after it
record Ahead (more : ℕ) (v : Version) (at : ℕ) (s : List ℕ) (rest : List Row) (end : ℕ) : Type 0 where
  x : ℕ
  mid : ℕ
  plain : byte at s (plain_in at) ≡ is x mid
  r : Row
  after : ℕ
  parts : RowParts v x at mid s r after
  others : Behind r (rows_at more v after s) rest end

ahead :
    (more : ℕ) (v : Version) (at : ℕ) (s : List ℕ) (rest : List Row) (end : ℕ) →
    rows_at (suc more) v at s ≡ is rest end →
    Ahead more v at s rest end
unfolding rows_at
ahead more v at s rest end e =
    let i =
    steps_on item.Tag (byte at s (plain_in at))
    (λ x at'. pass (row v x at at' s) (λ r at. through (λ rows. r ∷ rows) (rows_at more v at s))) rest end e in
    let j = steps (row v i.value at i.at s) (λ r at. through (λ rows. r ∷ rows) (rows_at more v at s)) rest end i.goes_on_lem in
    record {
      x = i.value;
      mid = i.at;
      plain = i.read;
      r = j.value;
      after = j.at;
      parts = row_parts v i.value at i.at s j.value j.at j.read;
      others = behind j.value (rows_at more v j.at s) rest end j.goes_on_lem;
    }

-- what the loop keeps: `at` is the place in the seal, `to` that in the table
pub record Put (v : Version) (s : List ℕ) (count from : ℕ) (entry out : List ℕ) (at to : ℕ) : Type 0 where
  pub done : List Row
  pub rest : List Row
  pub left : ℕ
  pub end : ℕ
  pub counted : to + width * left ≡ width * count
  pub is_left : rows_at left v at s ≡ is rest end
  pub all : rows_read (rows_at count v from s) ≡ done ++ rest
  pub held : Held entry out to (table done)
  pub room : width * count ≤ length entry

pub put_start :
    (v : Version) (s : List ℕ) (count from : ℕ) (entry : List ℕ) → AreRead (rows_at count v from s) → width * count ≤ length entry →
    Put v s count from entry entry from 0
unfolding table
put_start v s count from entry a room =
    let e = ended (rows_at count v from s) a in
    record {
      done = [];
      rest = rows_read (rows_at count v from s);
      left = count;
      end = e.end;
      counted = omega arith;
      is_left = e.is_read;
      all = refl;
      held = held_start entry;
      room = room;
    }

module _ (v : Version) (s : List ℕ) (count from : ℕ) (entry out : List ℕ) (at to : ℕ) (put : Put v s count from entry out at to) where
  pub put_length : length out ≡ length entry
  put_length = held_length entry out to (table put.done) put.held (omega (arith, put.counted, put.room))

  -- no row is left
  none_left : (left : ℕ) (rest : List Row) (end : ℕ) → left ≡ 0 → rows_at left v at s ≡ is rest end → rest ≡ []
  unfolding rows_at
  none_left zero rest end z e = sym (same_value [] rest at end e)
  none_left (suc left) rest end z e = absurd (omega arith)

  pub put_end : width * count ≤ to → out ≡ then (table (rows_read (rows_at count v from s))) entry
  put_end h =
      let none : put.rest ≡ [] = none_left put.left put.rest put.end (omega (arith, put.counted)) put.is_left in
      let same : put.done ≡ rows_read (rows_at count v from s) = sym (put.all ∙ ap (λ z. put.done ++ z) none ∙ append-nil put.done) in
      put.held.is ∙ over_start entry (table put.done) ∙ ap (λ z. then (table z) entry) same

  -- a row is left
  module _ (some : to < width * count) where
    one_left :
        (left : ℕ) → to + width * left ≡ width * count → rows_at left v at s ≡ is put.rest put.end →
        (more : ℕ) × (to + width * suc more ≡ width * count) × Ahead more v at s put.rest put.end
    one_left zero e f = absurd (omega arith)
    one_left (suc more) e f = (more, e, ahead more v at s put.rest put.end f)

    found : (more : ℕ) × (to + width * suc more ≡ width * count) × Ahead more v at s put.rest put.end
    found = one_left put.left put.counted put.is_left

    -- so its tag is there
    pub put_tag : not rule.There at ≡ byte at s (plain_in at) → ⊥
    put_tag e = unread rule.There at found.2.x found.2.mid (e ∙ found.2.plain)

    module _ (x after : ℕ) (e : is x after ≡ byte at s (plain_in at)) where
      same_tag : x ≡ found.2.x
      same_tag = same_value x found.2.x after found.2.mid (e ∙ found.2.plain)

      same_mid : after ≡ found.2.mid
      same_mid = same_place x found.2.x after found.2.mid (e ∙ found.2.plain)

      sized_here : feature_length v after s ≡ is found.2.parts.n found.2.parts.value
      sized_here = ap (λ k. feature_length v k s) same_mid ∙ found.2.parts.sized

      -- and so is its length
      pub put_size : (rule : Rule) (place : ℕ) → not rule place ≡ feature_length v after s → ⊥
      put_size rule place l = unread rule place found.2.parts.n found.2.parts.value (l ∙ sized_here)

      module _ (n value : ℕ) (l : is n value ≡ feature_length v after s) where
        same_size : n ≡ found.2.parts.n
        same_size = same_value n found.2.parts.n value found.2.parts.value (l ∙ sized_here)

        same_start : value ≡ found.2.parts.value
        same_start = same_place n found.2.parts.n value found.2.parts.value (l ∙ sized_here)

        -- and its value
        pub put_value : value + n ≤ length s
        put_value = omega (arith, same_size, same_start, found.2.parts.there)

        abbrev here : Row
        here = row_of x at value n

        is_next : here ≡ found.2.r
        is_next =
            ap₂ (λ y k. row_of y at k n) same_tag same_start
            ∙ ap (λ k. row_of found.2.x at found.2.parts.value k) same_size ∙ found.2.parts.is_row

        -- the table has room for its row
        pub put_room : to + width ≤ length out
        put_room = omega (arith, put_length, put.room, found.1)

        pub put_more : (out' : List ℕ) → out' ≡ row_put here out to → Put v s count from entry out' (value + n) (to + width)
        put_more out' o =
            let others = found.2.others in
            let after_here : value + n ≡ found.2.after = ap₂ (λ a b. a + b) same_start same_size ∙ found.2.parts.reached in
            let more = held_more entry out to (table put.done) put.held (numbers here) out' (to + width)
            (o ∙ sym (put_row out to here put_room)) (ap (λ k. to + k) (length_numbers here)) (omega (arith, put.room, found.1)) in
            record {
              done = put.done ++ (here ∷ []);
              rest = others.others;
              left = found.0;
              end = put.end;
              counted = omega (arith, found.1);
              is_left = ap (λ k. rows_at found.0 v k s) after_here ∙ others.is_read;
              all =
                  put.all ∙ ap (λ z. put.done ++ z) (sym others.in_front ∙ ap (λ z. z ∷ others.others) (sym is_next))
                  ∙ sym (append_assoc put.done (here ∷ []) others.others);
              held = subst (Held entry out' (to + width)) (sym (table_end put.done here)) more;
              room = put.room;
            }
