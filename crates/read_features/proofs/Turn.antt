-- One turn of the walk over the features, on plain values: what is known at the place of a tag, and what each answer
-- there makes of the features.
-- Assumes nothing.
use mathlib.Core.Path.{◌≡◌, refl, ap, sym, subst, ◌∙◌}
use mathlib.Core.Bool.{true, false}
use Prim.Native.Nat.{ℕ, zero, suc, ◌+◌, ◌*◌, ◌/◌, ◌%◌, ◌^◌, ◌≤◌, ◌<◌}
use native.Mathlib.Omega.{arith}
use borrow.Author.Tests.{eq-eqb, ne_eqb, eqb-true, eqb-false}
use native.Mathlib.Numerals.{add-one}
use mathlib.Core.List.{List, [], ◌∷◌, ◌++◌}
use lib.Bits.{bit_and, bit_or, and_mask, mask_lt, or_step, or_shr, or_comm}
use lib.Dec.{eqb}
use lib.Pow.{shl_exact, shl-shr}
use lib.ListN.{length, length-append, length-set, take, get_or, set}
use lib.Seq.{get_or-take, take-suc-set, get_or-set_same, get_or-set_other}
use Rattle.format.specs.Choice.Laws.{by_test}
use Rattle.format.specs.Choice.{either}
use Rattle.format.specs.Bytes.{Bytes}
use Rattle.grammar.specs.Content.{Version}
use Rattle.grammar.proofs.Sizes.{has, free, free_less}
use Rattle.causes.specs.declared.Item.TheVariants as item
use Rattle.causes.specs.declared.Rule.{Rule}
use Rattle.causes.specs.declared.Rule.TheVariants as rule
use Rattle.verdict.specs.Items.{is, not, why, pass, whole, byte, plain_in, feature_length}
use Rattle.rows.specs.Rows.{row_of}
use Rattle.read_items.specs.Meaning.{past, through}
use Rattle.read_items.specs.Meaning.Laws.{Read, read_byte, judged_byte, byte_none, Past, past_whole, judged, whole_none}
use Rattle.verdict.specs.Judge.{Row, used, tag_in, tag, value_in, row, features}

-- the tags of the rows
abbrev pub tags_of : List Row → List ℕ
tags_of [] = []
tags_of (r ∷ rows) = r.tag ∷ tags_of rows

pub tags_end : (rows : List Row) (r : Row) → tags_of (rows ++ (r ∷ [])) ≡ tags_of rows ++ (r.tag ∷ [])
tags_end [] r = refl
tags_end (q ∷ rows) r = ap (λ z. q.tag ∷ z) (tags_end rows r)

-- a tag that stands at an index is used, and one that stands at none is not
pub used_at : (x : ℕ) (rows : List Row) (i : ℕ) → i < length rows → get_or (tags_of rows) i 0 ≡ x → used x rows ≡ true
used_at x [] i h e = absurd (omega arith)
used_at x (r ∷ rows) zero h e = ap (λ b. either b (used x rows)) (eq-eqb x r.tag (sym e))
used_at x (r ∷ rows) (suc i) h e =
    let ih = used_at x rows i (omega arith) e in
    by_test (eqb x r.tag) (λ t. ap (λ b. either b (used x rows)) t) (λ t. ap (λ b. either b (used x rows)) t ∙ ih)

pub used_none : (x : ℕ) (rows : List Row) → ((i : ℕ) → i < length rows → get_or (tags_of rows) i 0 ≡ x → ⊥) → used x rows ≡ false
used_none x [] none = refl
used_none x (r ∷ rows) none =
    let ih = used_none x rows (λ i h e. none (suc i) (omega arith) e) in
    ap (λ b. either b (used x rows)) (ne_eqb x r.tag (λ e. none 0 (omega arith) (sym e))) ∙ ih

used_end : (x : ℕ) (rows : List Row) (r : Row) → used x (rows ++ (r ∷ [])) ≡ either (eqb x r.tag) (used x rows)
used_end x [] r = refl
used_end x (q ∷ rows) r =
    let ih = used_end x rows r in
    by_test (eqb x q.tag)
    (λ t. simp (t, ih) (by_test (eqb x r.tag) (λ u. simp u) (λ u. simp u)))
    (λ t. simp (t, ih))

-- how many numbers below 255 are no row's tag: one more row with a new tag takes one away
has_tags : (x : ℕ) (rows : List Row) → has x (tags_of rows) ≡ used x rows
unfolding has
has_tags x [] = refl
has_tags x (r ∷ rows) = ap (either (eqb x r.tag)) (has_tags x rows)

free_same : (n : ℕ) (a b : List ℕ) → ((k : ℕ) → has k a ≡ has k b) → free n a ≡ free n b
unfolding free
free_same zero a b e = refl
free_same (suc n) a b e = let ih = free_same n a b e in simp (e n, ih)

free_none : (n : ℕ) → free n [] ≡ n
unfolding free has
free_none zero = refl
free_none (suc n) = let ih = free_none n in omega (arith, ih)

free_row :
    (n : ℕ) (rows : List Row) (r : Row) →
    r.tag < n →
    used r.tag rows ≡ false →
    free n (tags_of rows) ≡ suc (free n (tags_of (rows ++ (r ∷ []))))
unfolding has
free_row n rows r h e =
    let same : (k : ℕ) → has k (r.tag ∷ tags_of rows) ≡ has k (tags_of (rows ++ (r ∷ []))) =
    λ k. ap (either (eqb k r.tag)) (has_tags k rows) ∙ sym (has_tags k (rows ++ (r ∷ [])) ∙ used_end k rows r) in
    free_less n r.tag (tags_of rows) h (has_tags r.tag rows ∙ e)
    ∙ ap suc (free_same n (r.tag ∷ tags_of rows) (tags_of (rows ++ (r ∷ []))) same)

-- what the features are, by what stands at the place
module _ (more : ℕ) (v : Version) (rows : List Row) (at : ℕ) (s : List ℕ) where
  features_cut : not rule.There at ≡ byte at s (plain_in at) → features (suc more) v rows at s ≡ not (why item.Tag rule.There) at
  unfolding features tag
  features_cut e = rw (sym (byte_none at s (tag_in rows at) e)) refl

  features_end : (after : ℕ) → Read at s 0xFF after → used 0xFF rows ≡ false → features (suc more) v rows at s ≡ is rows at
  unfolding features tag
  features_end after b e = rw (judged_byte at s 0xFF after (tag_in rows at) b, e) refl

  features_used : (x after : ℕ) → Read at s x after → used x rows ≡ true
      → features (suc more) v rows at s ≡ not (why item.Tag rule.NotUsedBefore) at
  unfolding features tag
  features_used x after b e = rw (judged_byte at s x after (tag_in rows at) b, e) refl

  features_row : (x after : ℕ) → Read at s x after → used x rows ≡ false → (x ≡ 0xFF → ⊥)
      → features (suc more) v rows at s ≡ pass (row v x at after s) (λ r at. features more v (rows ++ (r ∷ [])) at s)
  unfolding features tag
  features_row x after b e other =
      rw (judged_byte at s x after (tag_in rows at) b, e, ne_eqb x 0xFF other)
      (ap (λ k. pass (row v x at k s) (λ r at. features more v (rows ++ (r ∷ [])) at s)) (sym b.reached))

-- what a row is, by its length and value
module _ (v : Version) (x start at : ℕ) (s : List ℕ) where
  row_refused : (rule : Rule) (place : ℕ) → not rule place ≡ feature_length v at s → row v x start at s ≡ not (why item.Length rule) place
  unfolding row
  row_refused rule place e = rw (sym e) refl

  row_cut : (n value : ℕ) → is n value ≡ feature_length v at s → not rule.There value ≡ whole n value s (past n value)
      → row v x start at s ≡ not (why item.Value rule.There) value
  unfolding row
  row_cut n value e w = rw (sym e, sym (whole_none n value s (value_in x start n value) w)) refl

  row_is :
      (n value after : ℕ) →
      is n value ≡ feature_length v at s →
      Past n value s after →
      row v x start at s ≡ is (row_of x start value n) after
  unfolding row
  row_is n value after e p =
      rw (sym e, judged n value s after (value_in x start n value) p) (ap (is (row_of x start value n)) (sym p.reached))

-- what is known at the place of a tag, after these rows
pub record Turn (v : Version) (s : List ℕ) (from : ℕ) (rows : List Row) (at : ℕ) : Type 0 where
  pub same : features 256 v [] from s ≡ features (suc (free 255 (tags_of rows))) v rows at s
  pub room : free 255 (tags_of rows) + length rows ≡ 255
  pub no_mark : used 0xFF rows ≡ false

pub turn_start : (v : Version) (s : List ℕ) (from : ℕ) → Turn v s from [] from
turn_start v s from =
    record { same = ap (λ n. features (suc n) v [] from s) (sym (free_none 255)); room = omega (arith, free_none 255); no_mark = refl }

module _ (v : Version) (s : List ℕ) (from : ℕ) (rows : List Row) (at : ℕ) (turn : Turn v s from rows at) where
  -- the seal ends here
  pub walk_cut : not rule.There at ≡ byte at s (plain_in at) → features 256 v [] from s ≡ not (why item.Tag rule.There) at
  walk_cut e = turn.same ∙ features_cut (free 255 (tags_of rows)) v rows at s e

  -- FF
  pub walk_end : (x after : ℕ) → is x after ≡ byte at s (plain_in at) → x ≡ 0xFF → features 256 v [] from s ≡ is rows at
  walk_end x after e ff =
      let b : Read at s 0xFF after = subst (λ y. Read at s y after) ff (read_byte at s x after e) in
      turn.same ∙ features_end (free 255 (tags_of rows)) v rows at s after b turn.no_mark

  -- a tag of an earlier row
  pub walk_again : (x after i : ℕ) → is x after ≡ byte at s (plain_in at) → i < length rows → get_or (tags_of rows) i 0 ≡ x
      → features 256 v [] from s ≡ not (why item.Tag rule.NotUsedBefore) at
  walk_again x after i e h f =
      turn.same ∙ features_used (free 255 (tags_of rows)) v rows at s x after (read_byte at s x after e) (used_at x rows i h f)

  -- a new tag
  module _ (x after : ℕ) (e : is x after ≡ byte at s (plain_in at)) (other : x ≡ 0xFF → ⊥)
      (none : (i : ℕ) → i < length rows → get_or (tags_of rows) i 0 ≡ x → ⊥) where
    on : features 256 v [] from s ≡ pass (row v x at after s) (λ r at. features (free 255 (tags_of rows)) v (rows ++ (r ∷ [])) at s)
    on = turn.same ∙ features_row (free 255 (tags_of rows)) v rows at s x after (read_byte at s x after e) (used_none x rows none) other

    -- fewer than 255 rows stand before it
    pub walk_room : x < 256 → length rows < 255
    walk_room small =
        let r : Row = row_of x at after 0 in
        omega (arith, turn.room, free_row 255 rows r (omega (arith, other)) (used_none x rows none))

    -- whose length is not read
    pub walk_unsized : (rule : Rule) (place : ℕ) → not rule place ≡ feature_length v after s
        → features 256 v [] from s ≡ not (why item.Length rule) place
    walk_unsized rule place l =
        on ∙ ap (λ i. pass i (λ r at. features (free 255 (tags_of rows)) v (rows ++ (r ∷ [])) at s))
        (row_refused v x at after s rule place l)

    module _ (n value : ℕ) (l : is n value ≡ feature_length v after s) where
      -- whose value is cut
      pub walk_short : not rule.There value ≡ whole n value s (past n value)
          → features 256 v [] from s ≡ not (why item.Value rule.There) value
      walk_short w =
          on ∙ ap (λ i. pass i (λ r at. features (free 255 (tags_of rows)) v (rows ++ (r ∷ [])) at s))
          (row_cut v x at after s n value l w)

      -- whose value is there
      pub walk_more :
          (end : ℕ) →
          x < 256 →
          is tt end ≡ whole n value s (past n value) →
          Turn v s from (rows ++ (row_of x at value n ∷ [])) end
      walk_more end small w =
          let r : Row = row_of x at value n in
          let p = past_whole n value s end w in
          let less : free 255 (tags_of rows) ≡ suc (free 255 (tags_of (rows ++ (r ∷ [])))) =
          free_row 255 rows r (omega (arith, other)) (used_none x rows none) in
          record {
            same =
                on
                ∙ ap (λ i. pass i (λ r at. features (free 255 (tags_of rows)) v (rows ++ (r ∷ [])) at s))
                (row_is v x at after s n value end l p)
                ∙ ap (λ k. features k v (rows ++ (r ∷ [])) end s) less;
            room = omega (arith, turn.room, less, length-append rows (r ∷ []));
            no_mark = used_end 0xFF rows r ∙ ap (λ b. either b (used 0xFF rows)) (ne_eqb 0xFF x (λ z. other (sym z))) ∙ turn.no_mark;
          }

-- what the loop keeps: rows whose tags stand at the start of the array
pub record Kept (v : Version) (s : List ℕ) (from : ℕ) (tags : List ℕ) (count at : ℕ) : Type 0 where
  pub rows : List Row
  pub many : length rows ≡ count
  pub size : length tags ≡ 255
  pub stand : take count tags ≡ tags_of rows
  pub turn : Turn v s from rows at

pub kept_start : (v : Version) (s : List ℕ) (from : ℕ) (tags : List ℕ) → length tags ≡ 255 → Kept v s from tags 0 from
kept_start v s from tags size = record { rows = []; many = refl; size = size; stand = refl; turn = turn_start v s from }

module _ (v : Version) (s : List ℕ) (from : ℕ) (tags : List ℕ) (count at : ℕ) (kept : Kept v s from tags count at) where
  -- an earlier tag in the array is that row's
  tag_at : (i : ℕ) → i < count → get_or (tags_of kept.rows) i 0 ≡ get_or tags i 0
  tag_at i h = ap (λ l. get_or l i 0) (sym kept.stand) ∙ get_or-take count tags i 0 h

  pub kept_cut : not rule.There at ≡ byte at s (plain_in at) → not (why item.Tag rule.There) at ≡ through length (features 256 v [] from s)
  kept_cut e = sym (ap (through length) (walk_cut v s from kept.rows at kept.turn e))

  pub kept_end : (x after : ℕ) → is x after ≡ byte at s (plain_in at) → x ≡ 0xFF → is count at ≡ through length (features 256 v [] from s)
  kept_end x after e ff =
      ap (λ n. is n at) (sym kept.many) ∙ sym (ap (through length) (walk_end v s from kept.rows at kept.turn x after e ff))

  pub kept_again : (x after i : ℕ) → is x after ≡ byte at s (plain_in at) → i < count → get_or tags i 0 ≡ x
      → not (why item.Tag rule.NotUsedBefore) at ≡ through length (features 256 v [] from s)
  kept_again x after i e h f =
      sym (ap (through length) (walk_again v s from kept.rows at kept.turn x after i e (omega (arith, kept.many)) (tag_at i h ∙ f)))

  pub kept_most : count ≤ 255
  kept_most = omega (arith, kept.many, kept.turn.room)

-- a byte that was read is one
pub byte_small : (s : List ℕ) (at x after : ℕ) → is x after ≡ byte at s (plain_in at) → Bytes s → x < 256
byte_small s at x after e bytes = omega (arith, bytes at, (read_byte at s x after e).is_byte)

-- a bit of a number is set, and stays set in an "or" with another
abbrev pub Set : ℕ → ℕ → Type 0
Set n k = n / 2 ^ k % 2 ≡ 1

odd_or : (m n : ℕ) → m % 2 ≡ 1 → bit_or m n % 2 ≡ 1
odd_or m n e = omega (arith, or_step m n)

set_or : (m n k : ℕ) → Set m k → Set (bit_or m n) k
set_or m n k e = ap (λ z. z % 2) (or_shr m n k) ∙ odd_or (m / 2 ^ k) (n / 2 ^ k) e

-- 1 shifted to a bit sets it
set_one : (m k : ℕ) → k < 64 → Set (bit_or m (1 * 2 ^ k % 2 ^ 64)) k
set_one m k h =
    let one : 1 * 2 ^ k % 2 ^ 64 / 2 ^ k ≡ 1 = ap (λ z. z / 2 ^ k) (shl_exact 1 k 64 (omega arith) (omega arith)) ∙ shl-shr 1 k in
    subst (λ z. Set z k) (or_comm (1 * 2 ^ k % 2 ^ 64) m) (set_or (1 * 2 ^ k % 2 ^ 64) m k (ap (λ z. z % 2) one))

-- the bit of each tag before is set, so a tag whose bit is not is none of those
abbrev Bit : List ℕ → ℕ → Type 0
Bit marks x = Set (get_or marks (x / 64) 0) (x % 64)

pub record Marked (marks tags : List ℕ) (count : ℕ) : Type 0 where
  pub places : length marks ≡ 4
  pub each : (i : ℕ) → i < count → Bit marks (get_or tags i 0)

pub marked_start : (marks tags : List ℕ) → length marks ≡ 4 → Marked marks tags 0
marked_start marks tags places = record { places = places; each = λ i h. absurd (omega arith) }

pub marked_none :
    {marks tags : List ℕ} {count : ℕ} →
    Marked marks tags count →
    (x : ℕ) →
    (bit_and (get_or marks (x / 64) 0 / 2 ^ bit_and x 63) 1 ≡ 1 → ⊥) →
    (i : ℕ) →
    i < count →
    get_or tags i 0 ≡ x →
    ⊥
marked_none {marks} marked x bare i h e =
    bare
    (and_mask (get_or marks (x / 64) 0 / 2 ^ bit_and x 63) 1
    ∙ ap (λ k. get_or marks (x / 64) 0 / 2 ^ k % 2) (and_mask x 6)
    ∙ subst (λ y. Bit marks y) e (marked.each i h))

-- the marks once a tag's bit is set
abbrev pub mark : List ℕ → ℕ → List ℕ
mark marks x = set marks (x / 64) (bit_or (get_or marks (x / 64) 0) (1 * 2 ^ bit_and x 63 % 2 ^ 64))

pub marked_more :
    (marks tags : List ℕ) (count x : ℕ) →
    Marked marks tags count →
    x < 256 →
    count < length tags →
    Marked (mark marks x) (set tags count x) (count + 1)
marked_more marks tags count x marked small room = record { places = simp length-set marked.places; each = each }
  where
    word : ℕ
    word = bit_or (get_or marks (x / 64) 0) (1 * 2 ^ bit_and x 63 % 2 ^ 64)

    at_word : get_or (mark marks x) (x / 64) 0 ≡ word
    at_word = get_or-set_same marks (x / 64) word 0 (omega (arith, marked.places))

    here : Bit (mark marks x) x
    here =
        subst (λ n. Set n (x % 64)) (sym at_word)
        (subst (λ k. Set word k) (and_mask x 6) (set_one (get_or marks (x / 64) 0) (bit_and x 63) (mask_lt x 6)))

    kept : (y : ℕ) → Bit marks y → Bit (mark marks x) y
    kept y e =
        by_test (eqb (y / 64) (x / 64))
        (λ t.
        let same = eqb-true (y / 64) (x / 64) t in
        subst (λ n. Set n (y % 64)) (sym (ap (λ w. get_or (mark marks x) w 0) same ∙ at_word))
        (set_or (get_or marks (x / 64) 0) _ (y % 64) (subst (λ w. Set (get_or marks w 0) (y % 64)) same e)))
        (λ t. subst (λ n. Set n (y % 64)) (sym (get_or-set_other marks (x / 64) (y / 64) word 0 (eqb-false (y / 64) (x / 64) t))) e)

    each : (i : ℕ) → i < count + 1 → Bit (mark marks x) (get_or (set tags count x) i 0)
    each i h =
        by_test (eqb i count)
        (λ t.
        subst (λ y. Bit (mark marks x) y)
        (sym (ap (λ z. get_or (set tags count x) z 0) (eqb-true i count t) ∙ get_or-set_same tags count x 0 room)) here)
        (λ t.
        let before = eqb-false i count t in
        subst (λ y. Bit (mark marks x) y) (sym (get_or-set_other tags count i x 0 before))
        (kept (get_or tags i 0) (marked.each i (omega (arith, before)))))

-- a tag that is not FF and none of those before
pub record New (v : Version) (s : List ℕ) (from : ℕ) (tags : List ℕ) (count at x after : ℕ) : Type 0 where
  pub kept : Kept v s from tags count at
  pub read : is x after ≡ byte at s (plain_in at)
  pub other : x ≡ 0xFF → ⊥
  pub none : (i : ℕ) → i < count → get_or tags i 0 ≡ x → ⊥

module _ (v : Version) (s : List ℕ) (from : ℕ) (tags : List ℕ) (count at x after : ℕ) (new : New v s from tags count at x after) where
  none_of : (i : ℕ) → i < length new.kept.rows → get_or (tags_of new.kept.rows) i 0 ≡ x → ⊥
  none_of i h f =
      let g : i < count = omega (arith, new.kept.many) in
      new.none i g (sym (tag_at v s from tags count at new.kept i g) ∙ f)

  pub new_unsized : (rule : Rule) (place : ℕ) → not rule place ≡ feature_length v after s
      → not (why item.Length rule) place ≡ through length (features 256 v [] from s)
  new_unsized rule place l =
      sym
      (ap (through length)
      (walk_unsized v s from new.kept.rows at new.kept.turn x after new.read new.other none_of rule place l))

  pub new_small : Bytes s → x < 256
  new_small = byte_small s at x after new.read

  pub new_room : Bytes s → count < 255
  new_room bytes =
      omega (
        arith,
        new.kept.many,
        walk_room v s from new.kept.rows at new.kept.turn x after new.read new.other none_of (new_small bytes),
      )

  module _ (n value : ℕ) (l : is n value ≡ feature_length v after s) where
    pub new_short : not rule.There value ≡ whole n value s (past n value)
        → not (why item.Value rule.There) value ≡ through length (features 256 v [] from s)
    new_short w =
        sym
        (ap (through length)
        (walk_short v s from new.kept.rows at new.kept.turn x after new.read new.other none_of n value l w))

    pub new_more : (end : ℕ) → Bytes s → is tt end ≡ whole n value s (past n value) → Kept v s from (set tags count x) (count + 1) end
    new_more end bytes w =
        let r : Row = row_of x at value n in
        let k = new.kept in
        let here : count < length tags = omega (arith, new_room bytes, k.size) in
        record {
          rows = k.rows ++ (r ∷ []);
          many = omega (arith, length-append k.rows (r ∷ []), k.many);
          size = simp length-set k.size;
          stand =
              ap (λ j. take j (set tags count x)) (add-one count)
              ∙ take-suc-set tags count x here
              ∙ ap (λ z. z ++ (x ∷ [])) k.stand
              ∙ sym (tags_end k.rows r);
          turn = walk_more v s from k.rows at k.turn x after new.read new.other none_of n value l end (new_small bytes) w;
        }
