-- Each of the items has a name and each of the rules has words, no two the same, and no other code has any.
-- Assumes nothing.
use Rattle.std.specs.Prelude.{refl}
use Rattle.pages.specs.Rows.{sought, EachItsOwn}
use Rattle.pages.specs.Rows.Laws.{number_for, each_its_own}
use Rattle.why_words.specs.Names.{items, rules}

pub items_apart : EachItsOwn items 17
unfolding sought number_for
items_apart = each_its_own 17 items refl refl refl

pub rules_apart : EachItsOwn rules 18
unfolding sought number_for
rules_apart = each_its_own 18 rules refl refl refl
