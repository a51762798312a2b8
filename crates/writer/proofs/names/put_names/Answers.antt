-- `put_names` meets its contract: three pairs in version 3; in version 4 two, the reference's length in the second, and the reference.
-- Assumes nothing.
use native.Mathlib.Omega.{arith}
use mathlib.Core.Path.{◌≡◌}
use Prim.Native.Nat.{ℕ, ◌-◌, ◌≤◌}
use mathlib.Core.List.{List}
use lib.Bits.{and_mask, mask_lt}
use lib.ListN.{length}
use Rattle.format.specs.Bytes.{All}
use Rattle.format.specs.Bytes.Laws.{all_at}
use Rattle.format.specs.Places.{to_end}
use Rattle.grammar.specs.Legal.{LetterOrDigit}
use Rattle.write_given.specs.Tests.Laws.{size_any, size_three}
use Rattle.writer.specs.PutNames.{value_below, named_letters, names_first, names_second, names_third, put_nine}
use Rattle.writer.specs.PutNames.{names_length, put_reference}
use Rattle.writer.proofs.names.put_names.Goals as goal
use Rattle.writer.proofs.names.put_names.Goals.{In-Three, Start}

-- the text, which is letters and digits, 5 to 259 of them
abbrev text : Start → List ℕ
text c = c.args.text.now

letters : (s : Start) → All LetterOrDigit (text s)
letters c = named_letters c.args.version (text c) c.requires.0

size : (s : Start) → (5 ≤ length (text s)) × (length (text s) ≤ 259)
size c = size_any c.args.version (length (text c)) c.requires.0.size

nine : (c : In-Three) → length c.args.text.now ≡ 9
nine c =
    let s = (c) in
    size_three s.args.version (length (text (goal.at.In-Three c).Start)) c.in-Three.is s.requires.0.size

pub put_three-second-requires : goal.put_three-second-requires
put_three-second-requires c =
    let a = c.args in
    (letters (goal.at.put_three-second-requires c).Start, omega (arith, (size (goal.at.put_three-second-requires c).Start).0), names_first a.version (text (goal.at.put_three-second-requires c).Start) a.out.now a.at c.requires.0 c.requires.1)

pub put_three-third-requires : goal.put_three-third-requires
put_three-third-requires c =
    let p = c.put_three-second in
    let s = (c) in
    let a = s.args in (
      letters (goal.at.put_three-third-requires c).Start,
      omega (arith, nine (goal.at.put_three-third-requires c).In-Three),
      names_second a.version (text (goal.at.put_three-third-requires c).Start) a.out.now a.at s.requires.0 s.requires.1 _ _ p.ensures.place p.ensures.buffer
          c.in-Three.is,
    )

pub put_three-requires : goal.put_three-requires
put_three-requires c =
    let p = c.put_three-second in
    let s = (c) in
    let a = s.args in (
      letters (goal.at.put_three-requires c).Start,
      omega (arith, nine (goal.at.put_three-requires c).In-Three),
      names_third a.version (text (goal.at.put_three-requires c).Start) a.out.now a.at s.requires.0 s.requires.1 _ _ p.ensures.place p.ensures.buffer
          c.in-Three.is _ _ c.put_three-third.ensures.place c.put_three-third.ensures.buffer,
    )

pub returns-in-Three : goal.returns-in-Three
returns-in-Three c =
    let p = c.put_three-second in
    let s = (c) in
    let a = s.args in
    let p = put_nine a.version (text (goal.at.returns-in-Three c).Start) a.out.now a.at s.requires.0 s.requires.1 _ _ p.ensures.place p.ensures.buffer
    c.in-Three.is _ _ c.put_three-third.ensures.place c.put_three-third.ensures.buffer _ _ c.put_three.ensures.place
    c.put_three.ensures.buffer in
    record { place = p.0; buffer = p.1 }

pub overflow_sub-size : goal.overflow_sub-size
overflow_sub-size c = omega (arith, (size (goal.at.overflow_sub-size c).Start).0)

pub bounds-text-3 : goal.bounds-text-3
bounds-text-3 c = omega (arith, (size (goal.at.bounds-text-3 c).Start).0)

pub value-requires : goal.value-requires
value-requires c =
    let s = (c) in all_at LetterOrDigit 0 (text (goal.at.value-requires c).Start) (letters (goal.at.value-requires c).Start) 3 (omega (arith, (size (goal.at.value-requires c).Start).0))

pub overflow_add-size-2 : goal.overflow_add-size-2
overflow_add-size-2 c = omega (arith, mask_lt (length (text (goal.at.overflow_add-size-2 c).Start) - 4) 4)

pub put_values-next-requires : goal.put_values-next-requires
put_values-next-requires c =
    let p = c.put_three-second in
    let s = (c) in
    let a = s.args in (
      value_below _ _ c.value.ensures,
      omega (arith, (size (goal.at.put_values-next-requires c).Start).1),
      omega (arith, mask_lt (length (text (goal.at.put_values-next-requires c).Start) - 4) 4),
      names_length a.version (text (goal.at.put_values-next-requires c).Start) a.out.now a.at s.requires.0 s.requires.1 _ _ p.ensures.place p.ensures.buffer
          c.in_default.is,
    )

pub returns : goal.returns
returns c =
    let p = c.put_three-second in
    let s = (c) in
    let a = s.args in
    let p = put_reference a.version (text (goal.at.returns c).Start) a.out.now a.at s.requires.0 s.requires.1 _ _ p.ensures.place p.ensures.buffer
    c.in_default.is _ _ c.value.ensures (and_mask (length (text (goal.at.returns c).Start) - 4) 4) _ _ c.put_values-next.ensures.place
    c.put_values-next.ensures.buffer _ (to_end (text (goal.at.returns c).Start) 4) _ _ c.put_text.ensures.place c.put_text.ensures.buffer in
    record { place = p.0; buffer = p.1 }
