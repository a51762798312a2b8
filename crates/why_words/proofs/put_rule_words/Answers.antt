-- `why_words::put_rule_words` meets its contract: its page is the table's, and 61 is the length of the longest words.
-- Assumes nothing.
use mathlib.Core.Path.{refl}
use Rattle.pages.specs.Page.{page_of}
use Rattle.pages.specs.Calls.Laws.{of_table}
use Rattle.why_words.specs.Names.{rules}
use Rattle.why_words.specs.Calls.Laws.{longest_words}
use Rattle.why_words.proofs.put_rule_words.Goals as goal

pub returns : goal.returns
unfolding page_of
returns c =
    let put = of_table rules _ _ c.put_words_of.ensures refl refl in
    record { answer = put.answer 42; buffer = put.buffer 42; room = longest_words }
