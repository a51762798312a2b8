-- `front_seal::counted_front` meets its contract: the pair with the length, the reference, and then the dates.
-- Assumes nothing.
use native.Mathlib.Omega.{arith}
use Rattle.front_seal.specs.Steps.Names.{length_ends, length_there, size_most, reference_ends, reference_goes}
use borrow.Author.Rules.{rules}
use Rattle.front_seal.proofs.counted_front.Goals as goal

pub returns-then-length-lt2 : goal.returns-then-length-lt2
returns-then-length-lt2 c = length_ends c.args.seal.now _ c.pair_front-length.ensures c.if-length-lt2.true

pub bounds-seal-6 : goal.bounds-seal-6
bounds-seal-6 c =
    let there = length_there c.args.seal.now _ c.pair_front-length.ensures c.if-length-lt2.false in
    search (rules, there)

pub bounds-seal-7 : goal.bounds-seal-7
bounds-seal-7 c =
    let there = length_there c.args.seal.now _ c.pair_front-length.ensures c.if-length-lt2.false in
    search (rules, there)

pub text_front-reference-requires : goal.text_front-reference-requires
text_front-reference-requires c =
    let seal = c.args.seal.now in
    let most = size_most seal _ c.pair_front-length.ensures c.if-length-lt2.false _ c.length_in-size.ensures in
    (omega arith, most)

pub returns-then-reference-width : goal.returns-then-reference-width
returns-then-reference-width c =
    let seal = c.args.seal.now in
    reference_ends seal _ c.pair_front-length.ensures c.if-length-lt2.false _ c.length_in-size.ensures _
    c.text_front-reference.ensures _
    (omega (arith, c.threes-width.ensures)) c.if-reference-width.true

pub dates_front-requires : goal.dates_front-requires
dates_front-requires c =
    let seal = c.args.seal.now in
    let most = size_most seal _ c.pair_front-length.ensures c.if-length-lt2.false _ c.length_in-size.ensures in
    omega (arith, most, c.threes-width.ensures)

pub returns : goal.returns
returns c =
    let seal = c.args.seal.now in
    reference_goes seal _ c.pair_front-length.ensures c.if-length-lt2.false _ c.length_in-size.ensures _
    c.text_front-reference.ensures _
    (omega (arith, c.threes-width.ensures)) c.if-reference-width.false _ c.dates_front.ensures
