-- Laws of the table.
-- Assumes nothing.
use Rattle.std.specs.Prelude.{◌≡◌, refl, []}
use Rattle.format.specs.Bytes.{All}
use Rattle.pages.specs.Rows.{sought}
use Rattle.words.specs.Words.{retired, words_of}

-- a retired number has no words
pub none_retired : All (λ n. words_of n ≡ []) retired
unfolding sought
none_retired = (refl, tt)
