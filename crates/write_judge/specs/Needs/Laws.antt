-- Laws of the judged parts: the names that pass the tests are legal.
-- Assumes nothing.
use Rattle.std.proofs.Common.{sym, subst, arith, length-drop, take-append-drop, length-take-le}
use Rattle.std.specs.Prelude.{ℕ, List, length, take, drop}
use Rattle.format.specs.Bytes.Laws.{all_append}
use Rattle.pairs.specs.Chart.{InChart}
use Rattle.c40.specs.Text.{Text}
use Rattle.grammar.specs.Content.{Version}
use Rattle.grammar.specs.Legal.{ReferenceCharacter, ReferenceSize}
use Rattle.grammar.proofs.Parts.{Names, signer_text, reference_text}
use Rattle.fields.specs.Characters.{is_reference}
use Rattle.fields.specs.Characters.Grammar.{reference_of, all_of, signer_of}
use Rattle.write_given.specs.Tests.Laws.{size_any, reference_size}
use Rattle.write_judge.specs.Needs.{Named}

-- the judged names are legal, and so they are text
pub named_legal : (v : Version) (t : List ℕ) → Named v t → Names v (take 4 t, drop 4 t)
named_legal v t n = record {
  signer = signer_of (take 4 t) (length-take-le 4 t (omega (arith, (size_any v (length t) n.size).0))) n.signer;
  reference = all_of ReferenceCharacter is_reference reference_of (drop 4 t) n.reference;
  size = subst (ReferenceSize v) (sym (length-drop 4 t)) (reference_size v (length t) n.size);
}

pub named_text : (v : Version) (t : List ℕ) → Named v t → Text t
named_text v t n =
    let legal = named_legal v t n in
    subst Text (take-append-drop 4 t)
    (all_append InChart (take 4 t) (drop 4 t) (signer_text (take 4 t) legal.signer).1 (reference_text (drop 4 t) legal.reference))
