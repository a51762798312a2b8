-- `why_words::put_item_name` meets its contract: its page is the table's, and 20 is the length of the longest name.
-- Assumes nothing.
use mathlib.Core.Path.{refl}
use Rattle.pages.specs.Page.{page_of}
use Rattle.pages.specs.Calls.Laws.{of_table}
use Rattle.why_words.specs.Names.{items}
use Rattle.why_words.specs.Calls.Laws.{longest_name}
use Rattle.why_words.proofs.put_item_name.Goals as goal

pub returns : goal.returns
unfolding page_of
returns c =
    let put = of_table items _ _ c.put_words_of.ensures refl refl in
    record { answer = put.answer 42; buffer = put.buffer 42; room = longest_name }
