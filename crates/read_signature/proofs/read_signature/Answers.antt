-- `read_signature` meets its contract: the length, the size, the bytes, and nothing after them.
-- Assumes nothing.
use native.Mathlib.Omega.{arith}
use mathlib.Core.Path.{◌≡◌, ◌∙◌, ap, sym}
use mathlib.Core.Bool.{true}
use Prim.Native.Nat.{ℕ}
use Rattle.causes.specs.declared.Item.TheVariants as item
use Rattle.verdict.specs.Items.{is, der_length}
use Rattle.read_items.specs.Meaning.{item_of, whole_of, refusal_of}
use Rattle.read_items.specs.Meaning.Laws.{Past, past_whole, whole_none}
use Rattle.verdict.specs.Judge.{raw_in}
use Rattle.fields.specs.Signature.{is_signature}
use Rattle.read_signature.specs.Meaning.Laws.{signature_length_lem, signature_size_lem, signature_cut, signature_more, signature_is}
use Rattle.read_items.specs.Meaning.Laws.{says}
use Rattle.read_signature.proofs.read_signature.Goals as goal
use Rattle.read_signature.proofs.read_signature.Goals.{Else-not-is_signature, In-Ok, In-Some}

abbrev size : In-Ok → ℕ
size c = c.in-Ok.size

abbrev starts_at : In-Ok → ℕ
starts_at c = c.in-Ok.start.place

read_length : (c : In-Ok) → is (size c) (starts_at c) ≡ der_length c.args.at.place c.args.seal.now
read_length c = sym (ap item_of c.in-Ok.is) ∙ c.der_length-length.ensures

sized : (c : Else-not-is_signature) → is_signature c.in-Ok.size ≡ true
sized c = sym c.is_signature.ensures ∙ c.if-not-is_signature.false

there : (c : In-Some) →
    Past c.in-Ok.size c.in-Ok.start.place c.args.seal.now c.in-Some.end.place
there c = past_whole _ _ _ _ (sym (ap (whole_of _) c.in-Some.is) ∙ c.skip.ensures)

pub returns-in_default : goal.returns-in_default
returns-in_default c =
    says _ _ _ _ (c.unread.ensures ∙ ap (λ r. refusal_of item.SignatureLength r) c.in_default.is)
    (signature_length_lem _ _ _ _ (sym (ap item_of c.in_default.is) ∙ c.der_length-length.ensures))

pub returns-then-not-is_signature : goal.returns-then-not-is_signature
returns-then-not-is_signature c =
    says _ _ _ _ c.of.ensures
    (signature_size_lem _ _ _ _ (read_length (goal.at.returns-then-not-is_signature c).In-Ok) (sym c.is_signature.ensures ∙ c.if-not-is_signature.true))

pub returns-in_default-skip : goal.returns-in_default-skip
returns-in_default-skip c =
    let n = size (goal.at.returns-in_default-skip c).In-Ok in
    says _ _ _ _ c.of-in_default-skip.ensures
    (signature_cut _ _ _ _ (read_length (goal.at.returns-in_default-skip c).In-Ok) (sized (goal.at.returns-in_default-skip c).Else-not-is_signature)
    (whole_none n (starts_at (goal.at.returns-in_default-skip c).In-Ok) c.args.seal.now (raw_in n (starts_at (goal.at.returns-in_default-skip c).In-Ok))
    (sym (ap (whole_of (starts_at (goal.at.returns-in_default-skip c).In-Ok)) c.in_default-skip.is) ∙ c.skip.ensures)))

pub returns-then-end-seal : goal.returns-then-end-seal
returns-then-end-seal c =
    says _ _ _ _ c.of-then-end-seal.ensures (signature_more _ _ _ _ (read_length (goal.at.returns-then-end-seal c).In-Ok) (sized (goal.at.returns-then-end-seal c).Else-not-is_signature) _ (there (goal.at.returns-then-end-seal c).In-Some) (omega arith))

pub returns : goal.returns
returns c =
    signature_is _ _ _ _ (read_length (goal.at.returns c).In-Ok) (sized (goal.at.returns c).Else-not-is_signature) _ (there (goal.at.returns c).In-Some) (omega arith)
