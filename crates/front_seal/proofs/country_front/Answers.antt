-- `front_seal::country_front` meets its contract: the country, the signer's first three characters, and then the names.
-- Assumes nothing.
use Rattle.grammar.specs.Content.{three, four}
use Rattle.front_header.specs.Header.{names_front}
use Rattle.front_seal.specs.Steps.Names.{country_ends, signer_ends, names_go}
use Rattle.front_seal.proofs.country_front.Goals as goal

pub returns-then-country-lt2 : goal.returns-then-country-lt2
returns-then-country-lt2 c = country_ends _ c.args.seal.now _ c.pair_front-country.ensures c.if-country-lt2.true

pub returns-then-signer-lt2 : goal.returns-then-signer-lt2
returns-then-signer-lt2 c =
    let seal = c.args.seal.now in
    signer_ends _ seal _ c.pair_front-country.ensures c.if-country-lt2.false _ c.pair_front-signer.ensures
    c.if-signer-lt2.true

pub returns-in-Three : goal.returns-in-Three
returns-in-Three c =
    rw c.in-Three.is
    (names_go three c.args.seal.now _ c.pair_front-country.ensures c.if-country-lt2.false _
    c.pair_front-signer.ensures c.if-signer-lt2.false _ c.six_front.ensures)

pub returns-in-Four : goal.returns-in-Four
unfolding names_front
returns-in-Four c =
    rw c.in-Four.is
    (names_go four c.args.seal.now _ c.pair_front-country.ensures c.if-country-lt2.false _
    c.pair_front-signer.ensures c.if-signer-lt2.false _ c.counted_front.ensures)
