-- `give` meets its contract: the room, and then the rows and the text.
-- Assumes nothing.
use native.Mathlib.Omega.{arith}
use mathlib.Core.Path.{◌≡◌, ◌∙◌, ap}
use Rattle.rows.specs.Rows.{table}
use Rattle.reading.specs.Calls.{text, then}
use Rattle.reading.specs.Calls.Reads.{reads_accepted, both_fit, put_there, put_are, copied_names}
use Rattle.reader.specs.Given.{given_count, given_size}
use Rattle.reader.proofs.give.Goals as goal

pub put_rows-requires : goal.put_rows-requires
put_rows-requires c = record { there = put_there _ _ _ c.requires.given.good; room = omega arith }

pub returns : goal.returns
returns c =
    let g = c.requires.given in
    let a = g.good in
    let args = c.args in
    let long = given_size _ _ _ _ g in
    let rows : c.put_rows.new.table ≡ then (table a.report.rows) args.table.now =
    c.put_rows.ensures ∙ ap (λ r. then (table r) args.table.now) (put_are _ _ _ a) in
    let copied : c.copy.new.out ≡ then (text a.report) args.text.now =
    c.copy.ensures.buffer
    ∙ copied_names args.names.now args.text.now (omega (arith, c.if-text-names.false))
    ∙ ap (λ t. then t args.text.now) g.named in
    reads_accepted args.seal.now args.table.now args.text.now args.reading _ _ a.report
    (both_fit _ _ _ a.report a.judged (omega (arith, given_count _ _ _ _ g)) (omega (arith, long))) a.answer rows copied
