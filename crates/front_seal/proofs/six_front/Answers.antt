-- `front_seal::six_front` meets its contract: six characters, and then the dates.
-- Assumes nothing.
use Rattle.front_seal.specs.Steps.Names.{six_ends, six_goes}
use Rattle.front_seal.proofs.six_front.Goals as goal

pub returns-then-six-lt4 : goal.returns-then-six-lt4
returns-then-six-lt4 c = six_ends c.args.seal.now _ c.text_front-six.ensures c.if-six-lt4.true

pub returns : goal.returns
returns c =
    six_goes c.args.seal.now _ c.text_front-six.ensures c.if-six-lt4.false _
    c.dates_front.ensures
