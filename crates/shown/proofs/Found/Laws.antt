-- A turn of the search: the rows passed do not have the tag, so its value is among those that are left.
-- Assumes nothing.
use Rattle.std.specs.Prelude as std
use Rattle.std.specs.Prelude.{◌≡◌, refl, ℕ, List, Some, None, Ok, Err, eqb}
use Rattle.std.proofs.Common.{ap, sym, ◌∙◌, eq-eqb, ne_eqb}
use Rattle.std.proofs.Math.Option.{some}
use Rattle.format.specs.Choice.{pick}
use Rattle.rows.specs.declared.Row.{Row}
use Rattle.reading.specs.declared.Part.{Part}
use Rattle.walk_steps.specs.declared.Step.{Step}
use Rattle.walk_steps.specs.Steps.{step_at}
use Rattle.walk_steps.specs.Rows.{Finds}
use Rattle.walk_steps.proofs.Rows.Laws.{none_ahead, one_ahead}
use Rattle.shown.specs.declared.Where.TheVariants.{Extension, Main}
use Rattle.shown.specs.declared.NotShown.TheVariants.{Neither}
use Rattle.shown.specs.Where.{value_in, first_of}
use Rattle.shown.specs.Found.{meaning_of, HasValue, IsFirst}

-- the rows that are left of those that the walk finds, and the value is among them
pub record Rest (s : List ℕ) (tag at : ℕ) (rows : List Row) : Type 0 where
  pub rest : List Row
  pub finds : Finds s at rest
  pub same : value_in tag rows ≡ value_in tag rest

abbrev pub Left : List ℕ → ℕ → ℕ → ℕ → Type 0
Left s start tag at = (rows : List Row) → Finds s start rows → Rest s tag at rows

pub left_start : (s : List ℕ) (start tag : ℕ) → Left s start tag start
left_start s start tag rows f = record { rest = rows; finds = f; same = refl }

-- the value that a row says
abbrev value_of_row : Row → Part
value_of_row r = record { place = r.place; length = r.size }

module _ (s : List ℕ) (start tag at : ℕ) (left : Left s start tag at) (step : Step) (e : step ≡ step_at s at) where
  pub left_none : (step.number ≡ 0 → ⊥) → HasValue s start tag None
  left_none h rows f = let l = left rows f in sym (l.same ∙ ap (value_in tag) (none_ahead s at step e h l.rest l.finds))

  module _ (z : step.number ≡ 0) where
    -- the value is that of the row found, or among those behind it
    here : (rows : List Row) (f : Finds s start rows) →
        let a = one_ahead s at step e z (left rows f).rest (left rows f).finds in
        value_in tag rows ≡ pick (eqb step.row.tag tag) (some (value_of_row step.row)) (value_in tag a.others)
    here rows f = let l = left rows f in l.same ∙ ap (value_in tag) (one_ahead s at step e z l.rest l.finds).is_rest

    pub left_is : step.row.tag ≡ tag → HasValue s start tag (Some (value_of_row step.row))
    left_is t rows f =
        let l = left rows f in
        let a = one_ahead s at step e z l.rest l.finds in
        sym (here rows f ∙ ap (λ b. pick b (some (value_of_row step.row)) (value_in tag a.others)) (eq-eqb step.row.tag tag t))

    pub left_more : (step.row.tag ≡ tag → ⊥) → Left s start tag step.at
    left_more t rows f =
        let l = left rows f in
        let a = one_ahead s at step e z l.rest l.finds in
        record {
          rest = a.others;
          finds = a.finds;
          same = here rows f ∙ ap (λ b. pick b (some (value_of_row step.row)) (value_in tag a.others)) (ne_eqb step.row.tag tag t);
        }

-- the extension's value, or else the main seal's
module _ (main : List ℕ) (from : ℕ) (extension : List ℕ) (behind tag : ℕ) (v : std.Option Part) (has : HasValue extension behind tag v) where
  pub first_extension : (p : Part) → v ≡ Some p → IsFirst main from extension behind tag (Ok (Extension p))
  first_extension p e rows others f g = ap (λ o. first_of o (value_in tag rows)) (sym (ap meaning_of e) ∙ has others g)

  module _ (none : v ≡ None) (w : std.Option Part) (has' : HasValue main from tag w) where
    others_value : (rows others : List Row) → Finds main from rows → Finds extension behind others
        → first_of (meaning_of None) (meaning_of w) ≡ first_of (value_in tag others) (value_in tag rows)
    others_value rows others f g =
        ap (first_of (meaning_of None)) (has' rows f) ∙ ap (λ o. first_of o (value_in tag rows)) (sym (ap meaning_of none) ∙ has others g)

    pub first_main : (p : Part) → w ≡ Some p → IsFirst main from extension behind tag (Ok (Main p))
    first_main p e rows others f g = sym (ap (λ u. first_of (meaning_of None) (meaning_of u)) e) ∙ others_value rows others f g

    pub first_none : w ≡ None → IsFirst main from extension behind tag (Err Neither)
    first_none e rows others f g = sym (ap (λ u. first_of (meaning_of None) (meaning_of u)) e) ∙ others_value rows others f g
