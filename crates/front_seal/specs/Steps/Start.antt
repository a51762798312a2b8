-- The first two bytes: the mark and the version.
-- Assumes nothing.
use Rattle.std.specs.Prelude.{◌≡◌, refl, List, [], ◌∷◌, ℕ, ◌+◌, ◌≤◌, ◌<◌, length, drop, get_or}
use Rattle.std.proofs.Common.{sym, ap, ◌∙◌, arith, eq-eqb, ne_eqb}
use Rattle.std.proofs.Math.Option.{none, some}
use Rattle.versions.specs.Versions.{version_of_byte}
use Rattle.grammar.specs.Content.{Version}
use Rattle.front_header.specs.Header.{byte_front, past, country_front, versioned_front, version_front, front}

pub no_bytes : (s : List ℕ) → length s ≡ 0 → 0 ≡ front s
unfolding front past byte_front
no_bytes [] h = refl
no_bytes (b ∷ s) h = absurd (omega arith)

pub no_mark : (s : List ℕ) → 0 < length s → (get_or s 0 0 ≡ 0xDC → ⊥) → 0 ≡ front s
unfolding front past byte_front
no_mark [] h d = absurd (omega arith)
no_mark (b ∷ s) h d = simp (ne_eqb 0xDC b (λ e. d (sym e)))

-- behind the mark
after_mark : (b : ℕ) (s : List ℕ) → b ≡ 0xDC → front (b ∷ s) ≡ 1 + version_front s
unfolding front past byte_front
after_mark b s e = simp (eq-eqb 0xDC b (sym e))

pub mark_alone : (s : List ℕ) → length s ≡ 1 → get_or s 0 0 ≡ 0xDC → 1 ≡ front s
unfolding version_front
mark_alone [] h e = absurd (omega arith)
mark_alone (b ∷ []) h e = sym (after_mark b [] e)
mark_alone (b ∷ c ∷ s) h e = absurd (omega arith)

-- neither none nor one
pub two_there : (n : ℕ) → (n ≡ 0 → ⊥) → (n ≡ 1 → ⊥) → 2 ≤ n
two_there n a b = omega arith

pub no_version : (s : List ℕ) → 2 ≤ length s → get_or s 0 0 ≡ 0xDC → none ≡ version_of_byte (get_or s 1 0) → 1 ≡ front s
unfolding version_front
no_version [] h e f = absurd (omega arith)
no_version (b ∷ []) h e f = absurd (omega arith)
no_version (b ∷ c ∷ s) h e f = sym (after_mark b (c ∷ s) e ∙ ap (λ o. 1 + versioned_front o s) (sym f))

pub version_goes :
    (s : List ℕ) (v : Version) → 2 ≤ length s → get_or s 0 0 ≡ 0xDC → some v ≡ version_of_byte (get_or s 1 0) →
    (r : ℕ) → r ≡ 2 + country_front v (drop 2 s) → r ≡ front s
unfolding version_front
version_goes [] v h e f r x = absurd (omega arith)
version_goes (b ∷ []) v h e f r x = absurd (omega arith)
version_goes (b ∷ c ∷ s) v h e f r x =
    let y = after_mark b (c ∷ s) e ∙ ap (λ o. 1 + versioned_front o s) (sym f) in
    omega arith
