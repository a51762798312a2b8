-- What is written for a length: its form, byte by byte, and a buffer in which those bytes stand or do not fit.
-- Assumes nothing.
use Rattle.std.specs.Prelude.{◌≡◌, refl, ℕ, ◌+◌, ◌/◌, ◌%◌, ◌<◌, ◌≤◌, Some, None, ltb, length}
use Rattle.std.proofs.Math.Path.{ap, sym}
use Rattle.std.proofs.Common.{◌∙◌}
use native.Mathlib.Omega.{arith}
use borrow.Author.Tests.{le-ltb, ltb-true, ltb-false}
use mathlib.Core.List.{List, ◌∷◌}
use Rattle.format.specs.Buffer.{over}
use Rattle.format.specs.Choice.Laws.{by_test}
use Rattle.format.specs.BigEndian.{be}
use Rattle.format.specs.BigEndian.Laws.{be_two}
use Rattle.octets.specs.Copy.{copied, reached}
use Rattle.octets.specs.Copy.Laws.{copied_not, copied_all, reached_not, reached_all}
use Rattle.der.specs.Length.{form, by_bytes, bytes_of, length_form, written}
use Rattle.der.proofs.Lengths.Exact.{form_short, form_long}
use Rattle.der.specs.declared.Form.TheVariants as is

-- the length as it is written, by the tests
module _ (n : ℕ) where
  pub form_one : n < 0x80 → Some (is.One n) ≡ length_form n
  form_one h = ap by_bytes (sym (form_short n h))

  pub form_two : 0x80 ≤ n → n < 0x100 → Some (is.Two 0x81 n) ≡ length_form n
  unfolding be
  form_two h l =
      let low : n ≡ n % 256 = omega arith in
      ap (λ b. Some (is.Two 0x81 b)) low ∙ ap by_bytes (sym (form_long 1 (omega arith) (omega arith) n h l))

  pub form_three : 0x100 ≤ n → n < 0x10000 → Some (is.Three 0x82 (n / 256) (n % 256)) ≡ length_form n
  form_three h l =
      ap (λ b. by_bytes (0x82 ∷ b)) (sym (be_two n l)) ∙ ap by_bytes (sym (form_long 2 (omega arith) (omega arith) n h l))

  pub form_longer : 0x10000 ≤ n → None ≡ length_form n
  unfolding form be
  form_longer h =
      let one = le-ltb n 0x80 (omega arith) in
      let two = le-ltb n 0x100 (omega arith) in
      let three = le-ltb n 0x10000 h in
      by_test (ltb n 0x1000000) (λ e. simp (one, two, three, e)) (λ e. simp (one, two, three, e))

  -- what is written is the form
  pub written_form : n < 0x10000 → written n ≡ form n
  unfolding be
  written_form small =
      let again : (f : List ℕ) → form n ≡ f → bytes_of (by_bytes f) ≡ f → written n ≡ form n =
      λ f e same. ap (λ g. bytes_of (by_bytes g)) e ∙ same ∙ sym e in
      by_test (ltb n 0x80)
      (λ a. again _ (form_short n (ltb-true n 0x80 a)) refl)
      (λ a.
      by_test (ltb n 0x100)
      (λ b. again _ (form_long 1 (omega arith) (omega arith) n (ltb-false n 0x80 a) (ltb-true n 0x100 b)) refl)
      (λ b. again _ (form_long 2 (omega arith) (omega arith) n (ltb-false n 0x100 b) small) refl))

  -- in one byte to three
  pub written_some : n < 0x10000 → (1 ≤ length (written n)) × (length (written n) ≤ 3)
  written_some small =
      by_test (ltb n 0x80)
      (λ a. let e = ap (λ f. length (bytes_of f)) (form_one (ltb-true n 0x80 a)) in (omega arith, omega arith))
      (λ a.
      by_test (ltb n 0x100)
      (λ b. let e = ap (λ f. length (bytes_of f)) (form_two (ltb-false n 0x80 a) (ltb-true n 0x100 b)) in (omega arith, omega arith))
      (λ b. let e = ap (λ f. length (bytes_of f)) (form_three (ltb-false n 0x100 b) small) in (omega arith, omega arith)))

-- the place and the buffer after it: all of it where it fits, else nothing
module _ (n : ℕ) (out : List ℕ) (at : ℕ) where
  pub put_not : length out < at + length (written n) →
      (at ≡ reached (written n) (length out) at) × (out ≡ copied (written n) out at)
  put_not h = (reached_not (written n) out at h, copied_not (written n) out at h)

  module _ (bytes : List ℕ) (e : written n ≡ bytes) (room : at + length (written n) ≤ length out) where
    pub put_room : (reached (written n) (length out) at ≡ at + length bytes) × (copied (written n) out at ≡ over out at bytes)
    put_room = (
      sym (reached_all (written n) out at room) ∙ ap (λ b. at + length b) e,
      sym (copied_all (written n) out at room) ∙ ap (over out at) e,
    )

    pub put_all : (after : List ℕ) → after ≡ over out at bytes →
        (at + length bytes ≡ reached (written n) (length out) at) × (after ≡ copied (written n) out at)
    put_all after f = (sym put_room.0, f ∙ sym put_room.1)
