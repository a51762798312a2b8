-- The steps from the issue date on: two dates, definition reference and category, and then features and signature.
-- Assumes nothing.
use Rattle.std.specs.Prelude.{◌≡◌, List, ℕ, ◌+◌, ◌≤◌, ◌<◌, drop}
use Rattle.std.proofs.Math.Path.{sym, ap}
use Rattle.std.proofs.Common.{◌∙◌}
use Rattle.std.proofs.Math.Bool.{false}
use native.Mathlib.Omega.{arith}
use Rattle.std.proofs.Math.Dec.{ltb}
use borrow.Author.Tests.{le-ltb}
use Rattle.format.specs.Choice.{pick}
use Rattle.grammar.specs.Content.{Version}
use Rattle.front_days.specs.Days.{day_front}
use Rattle.front_features.specs.Meaning.{message_from}
use Rattle.front_header.specs.Header.{past, rest_front, last_front, dates_front}
use Rattle.front_seal.specs.Steps.{ends_in_lem, goes_on_lem}

module _ (v : Version) (s : List ℕ) (at : ℕ) where
  -- behind each item
  abbrev after_definition : List ℕ → ℕ
  after_definition = past last_front 1 (rest_front v (at + 8))

  abbrev after_signed : List ℕ → ℕ
  after_signed = past last_front 1 after_definition

  abbrev after_issued : List ℕ → ℕ
  after_issued = past day_front 3 after_signed

  abbrev Front : ℕ → Type 0
  Front r = r ≡ at + dates_front v (at + 8) (drop at s)

  module _ (i : ℕ) (ei : i ≡ day_front (drop at s)) where
    pub issued_ends : i < 3 → Front (at + i)
    unfolding dates_front
    issued_ends h = ends_in_lem day_front 3 after_issued s at i ei h

    module _ (hi : 3 ≤ i) (g : ℕ) (eg : g ≡ day_front (drop (at + 3) s)) where
      past_issued : at + dates_front v (at + 8) (drop at s) ≡ at + 3 + after_issued (drop (at + 3) s)
      unfolding dates_front
      past_issued = goes_on_lem day_front 3 after_issued s at i ei hi

      pub signed_ends : g < 3 → Front (at + 3 + g)
      signed_ends h = ends_in_lem day_front 3 after_signed s (at + 3) g eg h ∙ sym past_issued

      module _ (hg : 3 ≤ g) (d : ℕ) (ed : d ≡ last_front (drop (at + 6) s)) where
        past_signed : at + dates_front v (at + 8) (drop at s) ≡ at + 6 + after_signed (drop (at + 6) s)
        past_signed =
            let e : at + 3 + 3 ≡ at + 6 = omega arith in
            past_issued ∙ goes_on_lem day_front 3 after_signed s (at + 3) g eg hg ∙ ap (λ n. n + after_signed (drop n s)) e

        pub definition_ends : d < 1 → Front (at + 6)
        definition_ends h =
            let e : at + 6 ≡ at + 6 + d = omega arith in
            e ∙ ends_in_lem last_front 1 after_definition s (at + 6) d ed h ∙ sym past_signed

        module _ (hd : 1 ≤ d) (c : ℕ) (ec : c ≡ last_front (drop (at + 7) s)) where
          past_definition : at + dates_front v (at + 8) (drop at s) ≡ at + 7 + after_definition (drop (at + 7) s)
          past_definition =
              let e : at + 6 + 1 ≡ at + 7 = omega arith in
              past_signed ∙ goes_on_lem last_front 1 after_definition s (at + 6) d ed hd ∙ ap (λ n. n + after_definition (drop n s)) e

          pub category_ends : c < 1 → Front (at + 7)
          category_ends h =
              let e : at + 7 ≡ at + 7 + c = omega arith in
              e ∙ ends_in_lem last_front 1 (rest_front v (at + 8)) s (at + 7) c ec h ∙ sym past_definition

          pub rest_goes : 1 ≤ c → at ≤ 178 → (r : ℕ) → r ≡ message_from v (at + 8) s → Front r
          unfolding rest_front message_from
          rest_goes h most r f =
              let e : at + 7 + 1 ≡ at + 8 = omega arith in
              let t : ltb 4038 (at + 8) ≡ false = le-ltb 4038 (at + 8) (omega arith) in
              f ∙ ap (λ b. pick b (at + 8) (at + 8 + rest_front v (at + 8) (drop (at + 8) s))) t
              ∙ sym (past_definition ∙ goes_on_lem last_front 1 (rest_front v (at + 8)) s (at + 7) c ec h
              ∙ ap (λ n. n + rest_front v (at + 8) (drop n s)) e)
