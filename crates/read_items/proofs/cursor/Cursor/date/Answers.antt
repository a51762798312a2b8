-- `Cursor::date` meets its contract: the three bytes are there, and their number is a day or not.
-- Assumes nothing.
use mathlib.Core.Path.{◌∙◌, refl, ap, sym}
use Prim.Native.Nat.{◌+◌}
use mathlib.Core.List.{[], ◌∷◌}
use lib.ListN.{get_or}
use Rattle.format.specs.BigEndian.{val}
use Rattle.dates.specs.Days.{date_of}
use Rattle.dates.specs.Calls.{taken_of}
use Rattle.verdict.specs.Items.{not}
use Rattle.read_items.specs.Meaning.{whole_of}
use Rattle.read_items.specs.Meaning.Laws.{Past, past_whole, date_is, date_wrong, taken_day, taken_none}
use Rattle.read_items.proofs.cursor.Cursor.date.Goals as goal
use Rattle.read_items.proofs.cursor.Cursor.date.Goals.{In-Some}

-- the three bytes are there
there : (c : In-Some) → Past 3 c.args.self.place c.args.seal.now c.in-Some.next.place
there c = past_whole 3 _ _ _ (sym (ap (whole_of _) c.in-Some.is) ∙ c.skip.ensures)

pub returns-in_default-from_bytes : goal.returns-in_default-from_bytes
returns-in_default-from_bytes c =
    let a = c.args in
    let at = a.self.place in
    let s = a.seal.now in
    let n = val (get_or s at 0 ∷ get_or s (at + 1) 0 ∷ get_or s (at + 2) 0 ∷ []) 3 in
    ap (λ b. not b.rule b.place) c.breaks-in_default-from_bytes.ensures
    ∙ date_wrong at s _ (there (goal.at.returns-in_default-from_bytes c).In-Some) (date_of n) refl
    (taken_none n (sym (ap taken_of c.in_default-from_bytes.is) ∙ c.from_bytes.ensures))

pub returns : goal.returns
returns c =
    let a = c.args in
    let at = a.self.place in
    let s = a.seal.now in
    let n = val (get_or s at 0 ∷ get_or s (at + 1) 0 ∷ get_or s (at + 2) 0 ∷ []) 3 in
    let d = c.in-Ok.date in
    let day = taken_day n d (sym (ap taken_of c.in-Ok.is) ∙ c.from_bytes.ensures) in
    date_is at s _ (there (goal.at.returns c).In-Some) d day.0 day.1
