-- Every item stands in the byte string, or at its end; and the bytes judged are a part of it.
-- Assumes nothing.
use Rattle.std.specs.Prelude.{◌≡◌, ℕ, ◌+◌, ◌≤◌, ◌<◌, List, ◌++◌, ltb, length, take, drop}
use Rattle.std.proofs.Common.{ap, sym, arith, ltb-true, ltb-false, length-drop, length-append, take-append-drop}
use Rattle.format.specs.Bytes.{All}
use Rattle.format.specs.Choice.Laws.{by_test}
use Rattle.c40.specs.Text.{width}
use Rattle.der.specs.Length.{form}
use Rattle.grammar.specs.Publish.{length_of}
use Rattle.rules.specs.Rules.{Here, Rule, Keeps, Placed, size_of}
use Rattle.rules.specs.Layout.{Item, rules_of, At, start, on, Follows, to_mark, to_version, to_country, to_names, to_issued_3}
use Rattle.rules.specs.Layout.{to_signer, to_reference, to_issued_4, to_signed, to_definition, to_category, to_tag, to_length}
use Rattle.rules.specs.Layout.{to_value, to_next, to_signature_length, to_signature, to_end}
use Rattle.rules.specs.Reason.{Reason, judged}

-- what stands at a place is there
front_most : (k : ℕ) (s : List ℕ) → length (take k s) ≤ length s
front_most k s = omega (arith, ap length (take-append-drop k s), length-append (take k s) (drop k s))

here_inside : (s : List ℕ) (at : ℕ) (b : List ℕ) → at ≤ length s → Here s at b → at + length b ≤ length s
here_inside s at b h e = omega (arith, ap length e, front_most (length b) (drop at s), length-drop at s)

-- an item that is kept is there, so the next one stands inside
followed_inside : {s : List ℕ} {i j : Item} {p q : ℕ} → p ≤ length s → All (Keeps s p) (rules_of i) → Follows s i p j q → q ≤ length s
followed_inside h k (to_mark p) = h
followed_inside h k (to_version p) = k.0
followed_inside h k (to_country p v e) = k.0
followed_inside h k (to_names p) = k.0
followed_inside h k (to_issued_3 p) = k.0
followed_inside h k (to_signer p) = k.0
followed_inside h k (to_reference p n c) = k.0
followed_inside h k (to_issued_4 p n) = k.0
followed_inside h k (to_signed p v) = k.0
followed_inside h k (to_definition p v) = k.0
followed_inside h k (to_category p v) = k.0
followed_inside h k (to_tag p v) = k.0
followed_inside h k (to_length p v tags e) = k.0
followed_inside {s} h k (to_value p v tags n z e) = here_inside s p (length_of v n) h e
followed_inside h k (to_next p v tags n) = k.0
followed_inside h k (to_signature_length p v tags e) = k.0
followed_inside {s} h k (to_signature p n z e) = here_inside s p (form n) h e
followed_inside h k (to_end p n) = k.0

pub at_inside : {s : List ℕ} {i : Item} {p : ℕ} → At s i p → p ≤ length s
at_inside start = omega arith
at_inside (on w k f) = followed_inside (at_inside w) k f

-- the place told lies in the byte string or at its end
place_inside : (s : List ℕ) (at : ℕ) (r : Rule) (p : ℕ) → at ≤ length s → (Keeps s at r → ⊥) → Placed s at r p → p ≤ length s
place_inside s at Rule.not_too_long p h b e =
    by_test (ltb 4096 (length s))
    (λ t. omega (arith, ltb-true 4096 (length s) t))
    (λ t. absurd (b (ltb-false 4096 (length s) t)))
place_inside s at (Rule.there k) p h b e = omega arith
place_inside s at Rule.is_mark p h b e = omega arith
place_inside s at Rule.is_version p h b e = omega arith
place_inside s at (Rule.well_coded k) p h b (i, e, f) =
    omega (arith, f.inside, front_most (width k) (drop at s), length-drop at s)
place_inside s at Rule.country_code p h b e = omega arith
place_inside s at (Rule.signer_characters k) p h b e = omega arith
place_inside s at (Rule.reference_characters k from) p h b e = omega arith
place_inside s at Rule.hexadecimal_digits p h b e = omega arith
place_inside s at Rule.not_zero p h b e = omega arith
place_inside s at Rule.is_day p h b e = omega arith
place_inside s at Rule.one_to254 p h b e = omega arith
place_inside s at (Rule.not_used_before tags) p h b e = omega arith
place_inside s at Rule.begins_length p h b e = omega arith
place_inside s at Rule.rest_there p h b e = omega arith
place_inside s at Rule.shortest p h b e = omega arith
place_inside s at Rule.signature_size p h b e = omega arith
place_inside s at Rule.nothing_after p h b e = omega arith

pub told_inside : {s : List ℕ} (r : Reason s) → r.place ≤ length s
told_inside {s} r = place_inside s r.at r.rule r.place (at_inside r.way) r.broken r.placed

-- The bytes judged are a part of the byte string.
pub judged_inside : {s : List ℕ} (r : Reason s) → r.place + judged r ≤ length s
judged_inside {s} r =
    omega (
      arith,
      told_inside r,
      front_most (size_of s r.at r.rule) (drop r.place s),
      length-drop r.place s,
    )
