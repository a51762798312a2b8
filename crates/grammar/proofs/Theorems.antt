-- What is proved of legal contents and their published form, named after the tender's sentences (condition 3).
-- Assumes nothing.
use Rattle.std.specs.Prelude.{◌≡◌, ℕ, ◌+◌, List, [], ◌∷◌, ◌++◌, length, take}
use Rattle.std.proofs.Common.{ap, sym, ◌∙◌, arith, append_assoc, length-append, take_at}
use Rattle.format.proofs.Cut.Laws.{one_reading, no_front}
use Rattle.grammar.specs.Content.{Content}
use Rattle.grammar.specs.Publish.{header_zone, message_zone, signature_zone, signed_bytes, publish}
use Rattle.grammar.specs.Legal.{Legal}
use Rattle.grammar.proofs.Zones.{cut_front, cut_seal}

-- "That content is then the only one": two legal contents with the same published form are equal.
pub one_content : (a b : Content) → Legal a → Legal b → publish a ≡ publish b → a ≡ b
one_content a b la lb e = one_reading Legal publish cut_seal a b la lb e

-- "No accepted seal is the front part of a longer accepted one."
pub no_front_part : (a b : Content) (t : List ℕ) → Legal a → Legal b → publish a ++ t ≡ publish b → (a ≡ b) × (t ≡ [])
no_front_part a b t la lb e = no_front Legal publish cut_seal a b t la lb e

-- "Two legal contents that differ in header or features differ in their signed bytes."
pub signed_apart :
    (a b : Content) →
    Legal a →
    Legal b →
    signed_bytes a ≡ signed_bytes b →
    (a.header ≡ b.header) × (a.features ≡ b.features)
unfolding signed_bytes
signed_apart a b la lb e =
    let parts : (c : Content) →
    signed_bytes c ++ (0xFF ∷ []) ≡ header_zone c.header ++ ((message_zone c.header.version c.features ++ (0xFF ∷ [])) ++ []) =
    λ c. simp append_assoc in
    let c = cut_front a b [] [] la lb (sym (parts a) ∙ ap (λ s. s ++ (0xFF ∷ [])) e ∙ parts b) in
    (c.0, c.1)

-- The zones lie one after another and their lengths add up to the seal's; the signed bytes are its front part.
pub zones_add_up :
    (c : Content) →
    length (header_zone c.header) + length (message_zone c.header.version c.features) + length (signature_zone c.signature)
    ≡ length (publish c)
unfolding publish signed_bytes
zones_add_up c =
    let h = header_zone c.header in
    let m = message_zone c.header.version c.features in
    let z = signature_zone c.signature in
    omega (arith, length-append (h ++ m) z, length-append h m)

pub signed_front :
    (c : Content) →
    take (length (header_zone c.header) + length (message_zone c.header.version c.features)) (publish c) ≡ signed_bytes c
unfolding publish signed_bytes
signed_front c =
    let h = header_zone c.header in
    let m = message_zone c.header.version c.features in
    take_at (h ++ m) (signature_zone c.signature) (length h + length m) (length-append h m)
