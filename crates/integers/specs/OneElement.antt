-- One whole element and nothing else: reading it is exact, by the laws of `der`.
-- Assumes nothing.
use Rattle.std.specs.Prelude.{◌≡◌, ℕ, suc, ◌+◌, ◌-◌, List, [], length, take, drop}
use Rattle.std.proofs.Common.{ap, sym, ◌∙◌, arith, append-nil, length-append, take_all}
use Rattle.std.proofs.Math.Seq.{take-length}
use Rattle.format.specs.Bytes.{Bytes}
use Rattle.der.specs.Length.{Sized, form}
use Rattle.der.specs.Element.{element, lies, element_in}
use Rattle.der.proofs.Elements.Exact.{start, element_found, element_body, element_whole}

-- the part of a byte string that a body is
abbrev pub part : List ℕ → ℕ → ℕ → List ℕ
part s from to = take (to - from) (drop from s)

size : (tag : ℕ) (body : List ℕ) → start body + length body ≡ length (element tag body)
size tag body = sym (ap suc (length-append (form (length body)) body) ∙ omega arith)

-- complete: an element reads as its body, up to the end
pub element_reads :
    (tag : ℕ) (body : List ℕ) →
    Sized (length body) →
    element_in tag (element tag body) ≡ lies (start body) (length (element tag body))
element_reads tag body h =
    ap (element_in tag) (sym (append-nil (element tag body))) ∙ element_found tag body [] h ∙ ap (lies (start body)) (size tag body)

pub element_part : (tag : ℕ) (body : List ℕ) → part (element tag body) (start body) (length (element tag body)) ≡ body
element_part tag body =
    let behind : drop (start body) (element tag body) ≡ body =
    ap (drop (start body)) (sym (append-nil (element tag body))) ∙ element_body tag body [] ∙ append-nil body in
    ap (take (length (element tag body) - start body)) behind
    ∙ take_all (length (element tag body) - start body) body (omega (arith, size tag body))

-- sound: what reads as a body up to the end is the element with that body
pub element_is :
    (tag : ℕ) (s : List ℕ) →
    Bytes s →
    (from : ℕ) →
    element_in tag s ≡ lies from (length s) →
    s ≡ element tag (part s from (length s))
element_is tag s bytes from f = sym (take-length s) ∙ (element_whole tag s bytes from (length s) f).whole
