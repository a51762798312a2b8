-- How long the longest name is, and the longest words.
-- Assumes nothing.
use Rattle.std.specs.Prelude.{refl}
use Rattle.pages.specs.Rows.{sought}
use Rattle.pages.specs.Rows.Laws.{short_all}
use Rattle.why_words.specs.Names.{items, rules}
use Rattle.why_words.specs.Calls.{LongestName, LongestWords}

pub longest_name : LongestName 20
unfolding sought
longest_name = record { most = λ n. short_all 20 n items refl; one = 5; reached = refl }

pub longest_words : LongestWords 61
unfolding sought
longest_words = record { most = λ n. short_all 61 n rules refl; one = 5; reached = refl }
