-- What is known where a good seal is given: the seal was accepted, and the names are its signer and reference.
-- Assumes nothing.
use Rattle.std.specs.Prelude.{◌≡◌, ℕ, ◌+◌, List, length, take}
use Rattle.std.proofs.Common.{ap, ◌∙◌, arith, length-append}
use Rattle.versions.specs.declared.Version.{Version}
use Rattle.verdict.specs.Judge.{judge}
use Rattle.reading.specs.Calls.{text, Named}
use Rattle.reading.specs.Calls.Reads.{Accepted, named_is}
use Rattle.reading.specs.declared.Reading.{Reading}

pub record Given (s : List ℕ) (r : Reading) (v : Version) (names : List ℕ) : Type 0 where
  pub good : Accepted s r v
  pub named : names ≡ text good.report

-- the judging gives it
pub given : (s : List ℕ) (r : Reading) (v : Version) (a : Accepted s r v) (names : List ℕ) → Named (judge s) names
    → Given s r v (take (4 + r.header.length) names)
given s r v a names n = record { good = a; named = named_is s r v a names n }

-- how many features there are, and how long the names
module _ (s : List ℕ) (r : Reading) (v : Version) (names : List ℕ) (g : Given s r v names) where
  pub given_count : r.count ≡ length g.good.report.rows
  given_count = ap (λ z. z.count) g.good.answer

  pub given_size : length names ≡ 4 + length g.good.report.header.reference
  given_size =
      let h = g.good.report.header in
      ap length g.named ∙ omega (arith, length-append h.signer h.reference, g.good.signer)
