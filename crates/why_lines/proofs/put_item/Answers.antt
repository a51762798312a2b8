-- `why_lines::put_item` meets its contract: there is room for every name.
-- Assumes nothing.
use Rattle.std.proofs.Common.{◌∙◌}
use lib.ListN.{replicate}
use Rattle.why_words.specs.Calls.Laws.{longest_name}
use Rattle.why_lines.proofs.Lines.Laws.{words_back, count_of}
use Rattle.why_lines.proofs.put_item.Goals as goal

pub returns : goal.returns
returns c =
    let put = c.put_item_name-told in
    let back = words_back _ (replicate 20 0) _ _ _ put.ensures.answer (c.unwrap_or.ensures ∙ count_of put.result) put.ensures.buffer (longest_name.most _) in
    rw back at c.put_named.ensures
