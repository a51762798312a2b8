-- `pages::put_words_of` meets its contract: what is put down is what was found.
-- Assumes nothing.
use Rattle.pages.proofs.put_words_of.Goals as goal

pub returns : goal.returns
returns c =
    rw c.words_in.ensures at c.put_all.ensures
