-- The answers of the steps are settled by what `front_of` and `rest_of` say of them; that of the front whatever country and text stand
-- beside it.
-- Assumes nothing.
use Rattle.std.specs.Prelude.{◌≡◌, refl, ℕ, List, Result, Ok, Err}
use Rattle.format.specs.OneToOne.{OneToOne, by_way_back, one_back}
use Rattle.verdict.specs.Items.{Way, is, not}
use Rattle.read_header.specs.Steps.{Fields, Dated, front_of, rest_of}
use Rattle.read_header.specs.declared.Front.{Front}
use Rattle.read_header.specs.declared.Rest.{Rest}
use Rattle.read_items.specs.declared.cursor.Refusal.{Refusal}

front_back : Way Fields → Result Front Refusal
front_back (is f at) = Ok (record { version = f.version; length = f.names.length; next = record { place = at } })
front_back (not why place) = Err (record { why = why; place = place })

front_back_lem : (code text : List ℕ) (a : Result Front Refusal) → front_back (front_of code text a) ≡ a
unfolding front_back
front_back_lem code text (Ok front) = refl
front_back_lem code text (Err why) = refl

pub front_one : (code text code' text' : List ℕ) (a b : Result Front Refusal) → front_of code text a ≡ front_of code' text' b → a ≡ b
front_one code text code' text' =
    by_way_back (front_of code text) (front_of code' text') front_back (front_back_lem code text) (front_back_lem code' text')

rest_back : Way Dated → Result Rest Refusal
rest_back (is d at) =
    Ok (record { issued = d.issued; signed = d.signed; definition = d.definition; category = d.category; next = record { place = at } })
rest_back (not why place) = Err (record { why = why; place = place })

rest_back_lem : (a : Result Rest Refusal) → rest_back (rest_of a) ≡ a
unfolding rest_back
rest_back_lem (Ok rest) = refl
rest_back_lem (Err why) = refl

pub rest_one : OneToOne rest_of
rest_one = one_back rest_of rest_back rest_back_lem
