-- `put_front` meets its contract: two bytes, the country, then signer and reference.
-- Assumes nothing.
use native.Mathlib.Omega.{arith}
use mathlib.Core.Path.{◌≡◌, ap, ◌∙◌}
use Prim.Native.Nat.{ℕ, ◌<◌}
use mathlib.Core.List.{List}
use lib.ListN.{length, set, length-set}
use Rattle.format.specs.Buffer.{over}
use Rattle.format.proofs.Buffer.Laws.{length_over}
use Rattle.write_judge.specs.Needs.{front}
use Rattle.write_judge.specs.Size.{headed_country, headed_named}
use Rattle.writer.specs.Together.{front_room, names_room, put_front}
use Rattle.writer.proofs.put.put_front.Goals as goal
use Rattle.writer.proofs.put.put_front.Goals.{After-put_names, Start}

-- the bytes of the front
abbrev bytes : Start → List ℕ
bytes c = front c.args.version c.args.header c.args.text.now

-- what was put down
put :
    (c : After-put_names) →
    let b = front c.args.version c.args.header c.args.text.now in
    (c.put_names.result ≡ length b) × (c.put_names.new.out ≡ over c.args.out.now 0 b)
put c =
    put_front c.args.version c.args.header c.args.text.now c.args.out.now c.requires.1 _ c.byte.ensures
    c.put_country-at.new.out c.put_country-at.result c.put_country-at.ensures.place c.put_country-at.ensures.buffer c.put_names.new.out
    c.put_names.result c.put_names.ensures.place c.put_names.ensures.buffer

pub bounds-out-1 : goal.bounds-out-1
bounds-out-1 c =
    let p : 1 < length (set c.args.out.now 0 0xDC) = simp length-set (omega (arith, c.requires.1)) in p

pub put_country-at-requires : goal.put_country-at-requires
put_country-at-requires c =
    let a = c.args in (
      headed_country a.version a.header a.text.now c.requires.0,
      front_room a.version a.header a.text.now a.out.now c.requires.1 _ c.byte.ensures,
    )

pub put_names-requires : goal.put_names-requires
put_names-requires c =
    let a = c.args in (
      headed_named a.version a.header a.text.now c.requires.0,
      names_room a.version a.header a.text.now a.out.now c.requires.1 _ c.byte.ensures c.put_country-at.new.out
          c.put_country-at.result c.put_country-at.ensures.place c.put_country-at.ensures.buffer,
    )

pub shape_of-out : goal.shape_of-out
shape_of-out c =
    ap length (put (goal.at.shape_of-out c).After-put_names).1 ∙ length_over c.args.out.now 0 (bytes (goal.at.shape_of-out c).Start) c.requires.1

pub returns : goal.returns
returns c =
    let p = put (goal.at.returns c).After-put_names in
    record { place = p.0; buffer = p.1 }
