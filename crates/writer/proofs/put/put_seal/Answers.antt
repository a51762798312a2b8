-- `put_seal` meets its contract: header, features and signature, one after another.
-- Assumes nothing.
use native.Mathlib.Omega.{arith}
use lib.ListN.{length}
use Rattle.write_given.specs.Given.{Given, given}
use Rattle.writer.specs.Together.{passed_fit, signature_most, seal_front, seal_rest, seal_rows, seal_mark, put_seal}
use Rattle.writer.proofs.put.put_seal.Goals as goal
use Rattle.writer.proofs.put.put_seal.Goals.{Start}

-- all that was handed over
abbrev whole : Start → Given
whole c = given c.args.header c.args.text.now c.args.rows.now c.args.values.now c.args.signature.now

pub put_front-at-requires : goal.put_front-at-requires
put_front-at-requires c =
    (c.requires.0.header, seal_front c.args.version (whole (goal.at.put_front-at-requires c).Start) c.args.out.now c.requires.1)

pub put_rest-message-requires : goal.put_rest-message-requires
put_rest-message-requires c =
    let f = c.put_front-at in
    let s = (c) in (
      s.requires.0.dated,
      seal_rest s.args.version (whole (goal.at.put_rest-message-requires c).Start) s.args.out.now s.requires.1 f.new.out f.result f.ensures.place
          f.ensures.buffer,
    )

pub put_rows-end-requires : goal.put_rows-end-requires
put_rows-end-requires c =
    let r = c.put_rest-message in (
      passed_fit c.args.version (whole (goal.at.put_rows-end-requires c).Start) c.requires.0,
      seal_rows c.args.version (whole (goal.at.put_rows-end-requires c).Start) c.args.out.now c.requires.1 c.put_front-at.new.out c.put_front-at.result c.put_front-at.ensures.place
          c.put_front-at.ensures.buffer r.new.out r.result r.ensures.place r.ensures.buffer,
    )

pub put_feature-requires : goal.put_feature-requires
put_feature-requires c =
    let z = c.put_rows-end in
    let n = signature_most (length c.args.signature.now) c.requires.0.signature in (
      omega arith,
      (omega arith, tt),
      seal_mark c.args.version (whole (goal.at.put_feature-requires c).Start) c.args.out.now c.requires.1 c.put_front-at.new.out c.put_front-at.result c.put_front-at.ensures.place
          c.put_front-at.ensures.buffer c.put_rest-message.new.out c.put_rest-message.result c.put_rest-message.ensures.place c.put_rest-message.ensures.buffer z.new.out z.result z.ensures.place
          z.ensures.buffer,
    )

pub returns : goal.returns
returns c =
    put_seal c.args.version (whole (goal.at.returns c).Start) c.args.out.now c.requires.1 c.put_front-at.new.out c.put_front-at.result c.put_front-at.ensures.place c.put_front-at.ensures.buffer
    c.put_rest-message.new.out c.put_rest-message.result c.put_rest-message.ensures.place c.put_rest-message.ensures.buffer c.put_rows-end.new.out c.put_rows-end.result c.put_rows-end.ensures.place c.put_rows-end.ensures.buffer
    c.put_feature.new.out c.put_feature.ensures.buffer
