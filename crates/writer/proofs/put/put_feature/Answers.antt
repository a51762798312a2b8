-- `put_feature` meets its contract: the tag, the length, the value.
-- Assumes nothing.
use mathlib.Core.Path.{◌≡◌, ap, ◌∙◌}
use Prim.Native.Nat.{ℕ, ◌+◌}
use mathlib.Core.List.{List}
use lib.ListN.{length}
use Rattle.format.specs.Buffer.{over}
use Rattle.format.proofs.Buffer.Laws.{length_over}
use Rattle.grammar.specs.Publish.{feature}
use Rattle.writer.specs.Put.{feature_room, value_room, put_feature}
use Rattle.writer.proofs.put.put_feature.Goals as goal
use Rattle.writer.proofs.put.put_feature.Goals.{After-put_value, Start}

-- the bytes of the feature
abbrev bytes : Start → List ℕ
bytes c = feature c.args.version (record { tag = c.args.tag; value = c.args.value.now })

pub put_length-next-requires : goal.put_length-next-requires
put_length-next-requires c =
    (c.requires.1, feature_room c.args.version c.args.tag c.args.value.now c.args.out.now c.args.at c.requires.2)

pub put_value-requires : goal.put_value-requires
put_value-requires c =
    let l = c.put_length-next in
    let s = (c) in
    value_room s.args.version s.args.tag s.args.value.now s.args.out.now s.args.at s.requires.2 _ _ l.ensures.place
    l.ensures.buffer

-- what was put down
put :
    (c : After-put_value) →
    let b = feature c.args.version (record { tag = c.args.tag; value = c.args.value.now }) in
    (c.put_value.result ≡ c.args.at + length b) × (c.put_value.new.out ≡ over c.args.out.now c.args.at b)
put c =
    let l = c.put_length-next in
    put_feature c.args.version c.args.tag c.args.value.now c.args.out.now c.args.at c.requires.2 _ _ l.ensures.place
    l.ensures.buffer _ _ c.put_value.ensures.place c.put_value.ensures.buffer

pub shape_of-out : goal.shape_of-out
shape_of-out c =
    ap length (put (goal.at.shape_of-out c).After-put_value).1 ∙ length_over c.args.out.now c.args.at (bytes (goal.at.shape_of-out c).Start) c.requires.2

pub returns : goal.returns
returns c =
    let p = put (goal.at.returns c).After-put_value in
    record { place = p.0; buffer = p.1 }
