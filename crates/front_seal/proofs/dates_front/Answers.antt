-- `front_seal::dates_front` meets its contract: item by item, and then features and signature.
-- Assumes nothing.
use Rattle.front_seal.specs.Steps.Dates.{issued_ends, signed_ends, definition_ends, category_ends, rest_goes}
use Rattle.front_seal.proofs.dates_front.Goals as goal

pub returns-then-issued-lt3 : goal.returns-then-issued-lt3
returns-then-issued-lt3 c = issued_ends _ _ _ _ c.day_front-issued.ensures c.if-issued-lt3.true

pub returns-then-signed-lt3 : goal.returns-then-signed-lt3
returns-then-signed-lt3 c =
    signed_ends _ _ _ _ c.day_front-issued.ensures c.if-issued-lt3.false _ c.day_front-signed.ensures c.if-signed-lt3.true

pub returns-then-definition-lt1 : goal.returns-then-definition-lt1
returns-then-definition-lt1 c =
    definition_ends _ _ _ _ c.day_front-issued.ensures c.if-issued-lt3.false _ c.day_front-signed.ensures
    c.if-signed-lt3.false _ c.last_front-definition.ensures c.if-definition-lt1.true

pub returns-then-category-lt1 : goal.returns-then-category-lt1
returns-then-category-lt1 c =
    category_ends _ _ _ _ c.day_front-issued.ensures c.if-issued-lt3.false _ c.day_front-signed.ensures
    c.if-signed-lt3.false _ c.last_front-definition.ensures c.if-definition-lt1.false _ c.last_front-category.ensures
    c.if-category-lt1.true

pub returns : goal.returns
returns c =
    rest_goes _ _ _ _ c.day_front-issued.ensures c.if-issued-lt3.false _ c.day_front-signed.ensures
    c.if-signed-lt3.false _ c.last_front-definition.ensures c.if-definition-lt1.false _ c.last_front-category.ensures
    c.if-category-lt1.false c.requires _ c.message_from.ensures
