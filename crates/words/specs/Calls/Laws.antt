-- How long the longest words are.
-- Assumes nothing.
use Rattle.std.specs.Prelude.{refl}
use Rattle.pages.specs.Rows.{sought}
use Rattle.pages.specs.Rows.Laws.{short_all}
use Rattle.words.specs.Words.{table}
use Rattle.words.specs.Calls.{Longest}

pub longest : Longest 92
unfolding sought
longest = record { most = λ n. short_all 92 n table refl; one = 24; reached = refl }
