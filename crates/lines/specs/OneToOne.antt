-- `Put` settles the buffer and the next place: two that it allows for the same call are the same.
-- Assumes nothing.
use Rattle.std.specs.Prelude.{◌≡◌, ℕ, List}
use Rattle.std.proofs.Common.{ap, sym, ◌∙◌}
use Rattle.lines.specs.Line.{Put}

pub put_one : (old : List ℕ) (at : ℕ) (bytes new new' : List ℕ) (r r' : ℕ) →
    Put old at bytes new r → Put old at bytes new' r' → (new ≡ new') × (r ≡ r')
put_one old at bytes new new' r r' p q = let e = p.is ∙ sym q.is in (ap (λ l. l.text) e, ap (λ l. l.at) e)
