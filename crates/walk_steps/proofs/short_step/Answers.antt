-- `walk_steps::short_step` meets its contract: what it finds is what a step finds, as a length below 128 is one byte in both versions.
-- Assumes nothing.
use borrow.Author.Rules.{rules}
use native.Mathlib.Omega.{arith}
use mathlib.Core.Path.{◌≡◌, ap, sym, ◌∙◌}
use Rattle.std.specs.Prelude.{Ok}
use Rattle.read_items.specs.Meaning.{item_of, byte_of, whole_of}
use Rattle.walk_steps.proofs.Steps.Laws.{short_feature}
use Rattle.walk_steps.proofs.short_step.Goals as goal

pub returns : goal.returns
returns c on =
    let versioned : c.version.result ≡ Ok c.in_ok-ok.field-0 = search rules in
    c.found.ensures
    ∙ short_feature _ _ on _ _ (sym (ap item_of versioned) ∙ c.version.ensures)
    _ _ (sym (ap (byte_of _) c.in_ok-tag.was) ∙ c.byte.ensures) c.if-tag-eq255.false
    _ _ (sym (ap (byte_of _) c.in_ok-size.was) ∙ c.byte-2.ensures) (omega (arith, c.if-size-gt127.false))
    _ (sym (ap (whole_of _) c.in_ok-end.was) ∙ c.skip.ensures)
