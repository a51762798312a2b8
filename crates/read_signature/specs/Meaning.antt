-- What the signature's answer means.
-- Assumes nothing.
pub mod Laws
use Rattle.std.specs.Prelude.{ℕ, Result, Ok, Err}
use Rattle.verdict.specs.Items.{Way, is, not}
use Rattle.read_signature.specs.declared.Signature.{Signature}
use Rattle.read_items.specs.declared.cursor.Refusal.{Refusal}

-- its size, at the place where it starts
abbrev pub signature_of : Result Signature Refusal → Way ℕ
signature_of (Ok signature) = is signature.size signature.start.place
signature_of (Err why) = not why.why why.place
