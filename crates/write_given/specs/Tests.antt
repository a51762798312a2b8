-- The tests of what the writer is given (document 01, numbers 21 to 23). 20 is `version_of` of crates/versions/specs/Versions.antt, which
-- gives the version that the others go by, 24 and 25 are in crates/write_rows/specs/Tests.antt, and 26 is `is_signature` of
-- crates/fields/specs/Signature.antt.
-- Assumes nothing.
pub mod Laws
use Rattle.std.specs.Prelude.{Bool, ℕ, ◌+◌, List, eqb, length, take, drop}
use Rattle.format.specs.Choice.{both, within}
use Rattle.dates.specs.Days.{is_day}
use Rattle.grammar.specs.Content.{Version, three, four}
use Rattle.fields.specs.Characters.{is_reference, all, is_country, is_signer}
use Rattle.fields.specs.declared.Header.{Header}

-- the text is signer then reference: 9 bytes in version 3, 5 to 259 in version 4
abbrev pub is_text_size : Version → ℕ → Bool
is_text_size three n = eqb n 9
is_text_size four n = within 5 259 n

-- 21: country, signer or reference; the header's L is the reference's length
abbrev pub are_names : Version → Header → List ℕ → Bool
are_names v h text =
    both (is_country 60 h.country)
    (both (both (is_text_size v (length text)) (eqb (h.length + 4) (length text)))
    (both (is_signer (take 4 text)) (all is_reference (drop 4 text))))

-- 22: either date wrong
abbrev pub are_days : Header → Bool
are_days h = both (is_day h.issued) (is_day h.signed)

-- 23: definition reference or category
abbrev pub are_last : Header → Bool
are_last h = both (within 1 254 h.definition) (within 1 254 h.category)
