-- One turn of the loop over the features, on plain values: what is known at the place of a tag, and what each answer there
-- makes of the whole.
-- Assumes nothing.
use mathlib.Core.Path.{◌≡◌, refl, ap, sym, ◌∙◌}
use mathlib.Core.Bool.{true, false}
use Prim.Native.Nat.{ℕ, suc, ◌+◌, ◌-◌, ◌<◌, ◌≤◌}
use native.Mathlib.Omega.{arith}
use borrow.Author.Tests.{eq-eqb, ne_eqb, lt-ltb, le-ltb}
use mathlib.Core.List.{List, [], ◌∷◌}
use lib.ListN.{length, drop, get_or, length-drop}
use lib.Seq.{drop-drop}
use Rattle.format.specs.Places.{past_end}
use Rattle.grammar.specs.Content.{Version}
use Rattle.grammar.proofs.Sizes.{has}
use Rattle.front_message.specs.Message.{is, ends, length_front, signature_front, turn, message_front}
use Rattle.front_features.specs.Meaning.{counted, ended, counted_of}
use Rattle.front_features.specs.Places.{byte_here}
use Rattle.front_features.proofs.Fits.{length_fits, told_ends, told_is}
use Rattle.front_features.proofs.Marks.{Marked, bare, mark, found}
use Rattle.front_features.proofs.Marks.{marked_start, marked_used, marked_new, marked_more}

-- up to where all can be completed
abbrev pub whole : Version → List ℕ → ℕ → ℕ
whole v s start = start + message_front v (suc (length (drop start s))) [] (4096 - start) (drop start s)

-- a turn, by its answers
module _ (v : Version) (more : List ℕ → ℕ → List ℕ → ℕ) (used : List ℕ) (room x : ℕ) (t : List ℕ) where
  -- FF
  turn_mark : x ≡ 0xFF → turn v more used room (x ∷ t) ≡ 1 + signature_front (room - 1) t
  unfolding turn
  turn_mark e = rw (eq-eqb x 0xFF e)

  module _ (other : x ≡ 0xFF → ⊥) where
    -- a tag without room
    turn_cramped : room < 60 → turn v more used room (x ∷ t) ≡ 0
    unfolding turn
    turn_cramped less = rw (ne_eqb x 0xFF other, lt-ltb room 60 less)

    module _ (much : 60 ≤ room) where
      -- a tag that was used
      turn_used : has x used ≡ true → turn v more used room (x ∷ t) ≡ 0
      unfolding turn
      turn_used e = rw (ne_eqb x 0xFF other, le-ltb room 60 much, e)

      module _ (new : has x used ≡ false) where
        -- a new tag whose length ends
        turn_ends : (k : ℕ) → length_front v (room - 1) t ≡ ends k → turn v more used room (x ∷ t) ≡ 1 + k
        unfolding turn
        turn_ends k l = rw (ne_eqb x 0xFF other, le-ltb room 60 much, new, l)

        module _ (n w : ℕ) (l : length_front v (room - 1) t ≡ is n w) where
          -- whose value is cut
          turn_short : length (drop w t) < n → turn v more used room (x ∷ t) ≡ 1 + (w + length (drop w t))
          unfolding turn
          turn_short h = rw (ne_eqb x 0xFF other, le-ltb room 60 much, new, l, lt-ltb (length (drop w t)) n h)

          -- whose value is there
          turn_more : n ≤ length (drop w t)
              → turn v more used room (x ∷ t) ≡ 1 + (w + (n + more (x ∷ used) (room - 1 - w - n) (drop n (drop w t))))
          unfolding turn
          turn_more h = rw (ne_eqb x 0xFF other, le-ltb room 60 much, new, l, le-ltb (length (drop w t)) n h)

-- what the loop keeps at the place of a tag: the tags used before it, their marks, and that the whole goes on from there
pub record Kept (v : Version) (s : List ℕ) (start : ℕ) (marks : List ℕ) (at : ℕ) : Type 0 where
  pub fuel : ℕ
  pub used : List ℕ
  pub marked : Marked marks used
  pub within : at ≤ length s
  pub room : at + 58 ≤ 4096
  pub enough : length s - at ≤ fuel
  pub same : whole v s start ≡ at + message_front v (suc fuel) used (4096 - at) (drop at s)

-- at first
pub kept_start : (v : Version) (s : List ℕ) (start : ℕ) → start ≤ length s → start + 58 ≤ 4096 → Kept v s start bare start
kept_start v s start h g =
    record {
      fuel = length (drop start s);
      used = [];
      marked = marked_start;
      within = h;
      room = g;
      enough = omega (arith, length-drop start s);
      same = refl;
    }

module _ (v : Version) (s : List ℕ) (start : ℕ) (marks : List ℕ) (at : ℕ) (kept : Kept v s start marks at) where
  -- where nothing is left
  pub kept_end : length s ≤ at → at ≡ whole v s start
  unfolding message_front turn
  kept_end h =
      let e : message_front v (suc kept.fuel) kept.used (4096 - at) (drop at s) ≡ 0 = rw (past_end s at h) in
      omega (arith, kept.same)

  -- the turns after this one
  abbrev next : List ℕ → ℕ → List ℕ → ℕ
  next u r t = message_front v kept.fuel u r t

  module _ (x : ℕ) (h : at < length s) (e : x ≡ get_or s at 0) where
    -- the turn at a byte
    here : whole v s start ≡ at + turn v next kept.used (4096 - at) (x ∷ drop (at + 1) s)
    unfolding message_front
    here = kept.same ∙ ap (λ t. at + message_front v (suc kept.fuel) kept.used (4096 - at) t) (byte_here s at x h e)

    -- FF
    pub kept_mark : x ≡ 0xFF → at + 1 + signature_front (4096 - (at + 1)) (drop (at + 1) s) ≡ whole v s start
    kept_mark f =
        let room : 4096 - at - 1 ≡ 4096 - (at + 1) = omega arith in
        let e = turn_mark v next kept.used (4096 - at) x (drop (at + 1) s) f
        ∙ ap (λ r. 1 + signature_front r (drop (at + 1) s)) room in
        omega (arith, here, e)

    module _ (other : x ≡ 0xFF → ⊥) where
      -- a tag without room
      pub kept_cramped : 4096 - at < 60 → at ≡ whole v s start
      kept_cramped less = omega (arith, here, turn_cramped v next kept.used (4096 - at) x (drop (at + 1) s) other less)

      module _ (much : 60 ≤ 4096 - at) where
        -- a tag that was used
        pub kept_used : found marks x ≡ 1 → at ≡ whole v s start
        kept_used f =
            let u = marked_used marks kept.used x kept.marked f in
            omega (arith, here, turn_used v next kept.used (4096 - at) x (drop (at + 1) s) other much u)

-- the room behind a tag, a length and a value
room_behind : (at w size value : ℕ) → value ≡ at + 1 + w → 4096 - at - 1 - w - size ≡ 4096 - (value + size)
room_behind at w size value e = omega arith

-- a new tag with room
pub record New (v : Version) (s : List ℕ) (start : ℕ) (marks : List ℕ) (at x : ℕ) : Type 0 where
  pub kept : Kept v s start marks at
  pub inside : at < length s
  pub byte : x ≡ get_or s at 0
  pub other : x ≡ 0xFF → ⊥
  pub much : 60 ≤ 4096 - at
  pub unmarked : found marks x ≡ 1 → ⊥

module _ (v : Version) (s : List ℕ) (start : ℕ) (marks : List ℕ) (at x : ℕ) (new : New v s start marks at x) where
  -- the tags before it, and the bytes and the turns after it
  abbrev used : List ℕ
  used = new.kept.used

  abbrev rest : List ℕ
  rest = drop (at + 1) s

  abbrev then_next : List ℕ → ℕ → List ℕ → ℕ
  then_next u r t = message_front v new.kept.fuel u r t

  -- the turn at the tag
  at_tag : whole v s start ≡ at + turn v then_next used (4096 - at) (x ∷ rest)
  at_tag = here v s start marks at new.kept x new.inside new.byte

  -- it was not used
  unused : has x used ≡ false
  unused = marked_new marks used x new.kept.marked new.unmarked

  -- the room behind the tag
  behind : 4096 - at - 1 ≡ 4096 - (at + 1)
  behind = omega arith

  -- the fuel of the next turn
  one_less : new.kept.fuel ≡ suc (new.kept.fuel - 1)
  one_less = omega (arith, new.kept.enough, new.inside)

  -- whose length ends
  pub new_ends : (place : ℕ) → ended place ≡ counted_of (at + 1) (length_front v (4096 - (at + 1)) rest) → place ≡ whole v s start
  new_ends place e =
      let told = told_ends (at + 1) place (length_front v (4096 - (at + 1)) rest) e in
      let l = ap (λ r. length_front v r rest) behind ∙ told.1.0 in
      omega (arith, at_tag, turn_ends v then_next used (4096 - at) x rest new.other new.much unused told.0 l, told.1.1)

  module _ (size value : ℕ) (e : counted size value ≡ counted_of (at + 1) (length_front v (4096 - (at + 1)) rest)) where
    -- where its value starts, and that this and the value have room
    pub record Sized (w : ℕ) : Type 0 where
      pub says : length_front v (4096 - at - 1) rest ≡ is size w
      pub starts : value ≡ at + 1 + w
      pub within : value ≤ length s
      pub room : value + size + 58 ≤ 4096

    -- such a length is one
    sized : (w : ℕ) × Sized w
    sized =
        let told = told_is (at + 1) size value (length_front v (4096 - (at + 1)) rest) e in
        let fits = length_fits v (4096 - (at + 1)) size told.0 rest told.1.0 in (
          told.0,
          record {
            says = ap (λ r. length_front v r rest) behind ∙ told.1.0;
            starts = told.1.1;
            within = omega (arith, told.1.1, fits.there, length-drop (at + 1) s, new.inside);
            room = omega (arith, told.1.1, fits.fits, new.much);
          },
        )

    -- the value starts behind the tag
    pub new_past : at < value
    new_past = omega (arith, sized.1.starts)

    -- the value starts within the seal
    pub new_within : value ≤ length s
    new_within = sized.1.within

    -- the value has room, with 58 behind it
    pub new_room : value + size + 58 ≤ 4096
    new_room = sized.1.room

    -- what stands from its value on
    from_value : drop sized.0 rest ≡ drop value s
    from_value = drop-drop sized.0 (at + 1) s ∙ ap (λ k. drop k s) (sym sized.1.starts)

    -- whose value is cut
    pub new_short : length s - value < size → length s ≡ whole v s start
    new_short h =
        let left : length (drop sized.0 rest) ≡ length s - value = ap length from_value ∙ length-drop value s in
        omega (
          arith,
          at_tag,
          left,
          sized.1.starts,
          sized.1.within,
          turn_short v then_next used (4096 - at) x rest new.other new.much unused size sized.0 sized.1.says (omega arith),
        )

    -- what is left behind the value
    onward :
        message_front v new.kept.fuel (x ∷ used) (4096 - at - 1 - sized.0 - size) (drop size (drop sized.0 rest))
        ≡ message_front v (suc (new.kept.fuel - 1)) (x ∷ used) (4096 - (value + size)) (drop (value + size) s)
    onward =
        let w = sized.0 in
        let after : drop size (drop w rest) ≡ drop (value + size) s = ap (drop size) from_value ∙ drop-drop size value s in
        let room = room_behind at w size value sized.1.starts in
        ap (λ f. message_front v f (x ∷ used) (4096 - at - 1 - w - size) (drop size (drop w rest))) one_less
        ∙ ap (λ r. message_front v (suc (new.kept.fuel - 1)) (x ∷ used) r (drop size (drop w rest))) room
        ∙ ap (λ t. message_front v (suc (new.kept.fuel - 1)) (x ∷ used) (4096 - (value + size)) t) after

    -- whose value is there
    pub new_more : x < 256 → size ≤ length s - value → Kept v s start (mark marks x) (value + size)
    new_more small h =
        let w = sized.0 in
        let left : length (drop w rest) ≡ length s - value = ap length from_value ∙ length-drop value s in
        let on = turn_more v then_next used (4096 - at) x rest new.other new.much unused size w sized.1.says (omega arith) in
        record {
          fuel = new.kept.fuel - 1;
          used = x ∷ used;
          marked = marked_more marks used x new.kept.marked small;
          within = omega (arith, sized.1.within);
          room = new_room;
          enough = omega (arith, new.kept.enough, sized.1.starts);
          same = omega (arith, at_tag, on, onward, sized.1.starts);
        }
