-- `words::put_words` meets its contract: its page is the table's, and 92 is the length of the longest words.
-- Assumes nothing.
use mathlib.Core.Path.{refl}
use Rattle.pages.specs.Page.{page_of}
use Rattle.pages.specs.Calls.Laws.{of_table}
use Rattle.words.specs.Words.{table}
use Rattle.words.specs.Calls.Laws.{longest}
use Rattle.words.proofs.put_words.Goals as goal

pub returns : goal.returns
unfolding page_of
returns c =
    let put = of_table table _ _ c.put_words_of.ensures refl refl in
    record { answer = put.answer 63; buffer = put.buffer 63; room = longest }
