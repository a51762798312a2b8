-- `pages::words_in` meets its contract. The loop's invariant: the words are those that are found in the lines that are left.
use Rattle.std.proofs.Common.{◌≡◌, []}
use Rattle.std.specs.Bool.{MatchBool}
use Rattle.pages.specs.Page.{line_for}
use Rattle.pages.proofs.words_in.Given as goal

abbrev pub invariant-loop-line : goal.invariant-loop-line
invariant-loop-line l =
    MatchBool l.line-iterator.done (line_for l.code l.page ≡ []) (line_for l.code l.page ≡ line_for l.code l.line-iterator.rest.now)
