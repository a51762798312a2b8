-- `why_lines::put_rule` meets its contract: there is room for the words of every rule.
-- Assumes nothing.
use Rattle.std.proofs.Common.{◌∙◌}
use lib.ListN.{replicate}
use Rattle.why_words.specs.Calls.Laws.{longest_words}
use Rattle.why_lines.proofs.Lines.Laws.{words_back, count_of}
use Rattle.why_lines.proofs.put_rule.Goals as goal

pub returns : goal.returns
returns c =
    let put = c.put_rule_words-told in
    let back = words_back _ (replicate 61 0) _ _ _ put.ensures.answer (c.unwrap_or.ensures ∙ count_of put.result) put.ensures.buffer (longest_words.most _) in
    rw back at c.put_named.ensures
