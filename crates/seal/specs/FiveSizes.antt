-- The five sizes n stand in the grammar, in the test that reader and writer share and in the signature forms: all three
-- say the same, once over n.
-- Assumes nothing.
use Rattle.std.specs.Prelude.{◌≡◌, ℕ, ◌*◌, true, eqb}
use Rattle.std.proofs.Common.{ap₂, sym, ◌∙◌, arith, eqb-true, eq-eqb, ne_eqb}
use Rattle.std.proofs.lemmas.Bool.{eqb-false}
use Rattle.format.specs.Choice.Laws.{by_test}
use Rattle.format.specs.Choice.{either}
use Rattle.grammar.specs.Legal.{SignatureSize}
use Rattle.ecdsa.specs.Signature.{is_size}
use Rattle.fields.specs.Signature.{is_signature}
use Rattle.verdict.proofs.Judge.Complete.{size_passes}
use Rattle.verdict.proofs.Judge.Sound.{size_of}

doubled : (n k : ℕ) → eqb n k ≡ eqb (2 * n) (2 * k)
doubled n k =
    by_test (eqb n k)
    (λ e. e ∙ sym (eq-eqb (2 * n) (2 * k) (omega (arith, eqb-true n k e))))
    (λ e. e ∙ sym (ne_eqb (2 * n) (2 * k) (λ f. eqb-false n k e (omega arith))))

-- n is one of the five exactly when 2n is a raw length
pub size_doubled : (n : ℕ) → is_size n ≡ is_signature (2 * n)
unfolding is_size
size_doubled n =
    ap₂ either (doubled n 28) (ap₂ either (doubled n 32) (ap₂ either (doubled n 48) (ap₂ either (doubled n 64) (doubled n 66))))

-- and it is the grammar's rule
pub size_legal : (n : ℕ) → is_signature n ≡ true → SignatureSize n
size_legal n e = size_of n e

pub legal_size : (n : ℕ) → SignatureSize n → is_signature n ≡ true
legal_size n l = size_passes n l
