-- The answer on signer and reference is settled by what `names_of` says of it, whatever the text is that stands beside it.
-- Assumes nothing.
use Rattle.std.specs.Prelude.{◌≡◌, refl, ℕ, List, Result, Ok, Err}
use Rattle.format.specs.OneToOne.{by_way_back}
use Rattle.verdict.specs.Items.{Way, is, not}
use Rattle.read_names.specs.Meaning.{Measured, names_of}
use Rattle.read_items.specs.declared.cursor.Cursor.{Cursor}
use Rattle.read_items.specs.declared.cursor.Refusal.{Refusal}

names_back : Way Measured → Result (ℕ × Cursor) Refusal
names_back (is m at) = Ok (m.length, record { place = at })
names_back (not why place) = Err (record { why = why; place = place })

names_back_lem : (text : List ℕ) (a : Result (ℕ × Cursor) Refusal) → names_back (names_of text a) ≡ a
unfolding names_back
names_back_lem text (Ok read) = refl
names_back_lem text (Err why) = refl

pub names_one : (text text' : List ℕ) (a b : Result (ℕ × Cursor) Refusal) → names_of text a ≡ names_of text' b → a ≡ b
names_one text text' = by_way_back (names_of text) (names_of text') names_back (names_back_lem text) (names_back_lem text')
