-- Features that were counted, and features that were not read.
-- Assumes nothing.
use Rattle.std.specs.Prelude.{◌≡◌, ℕ, List, length}
use Rattle.std.proofs.Common.{ap, sym}
use Rattle.verdict.specs.Items.{Read, Way, is, not}
use Rattle.verdict.proofs.Items.Laws.{unread}
use Rattle.verdict.proofs.Items.Sound.{same_value, same_place}
use Rattle.verdict.specs.Judge.{Row}
use Rattle.read_items.specs.Meaning.{through}

-- what is not read through a map is not read itself
abbrev unread_of : {R A B : Type 0} → R → Read R B → Read R A
unread_of d (is b at) = not d at
unread_of d (not why place) = not why place

pub through_unread : {R A B : Type 0} (f : A → B) (i : Read R A) (why : R) (place : ℕ) → not why place ≡ through f i → not why place ≡ i
through_unread f (is a at) why place e = absurd (unread why place (f a) at e)
through_unread f (not w p) why place e = ap (unread_of why) e

-- rows that were counted
pub record Counted (i : Way (List Row)) (count end : ℕ) : Type 0 where
  pub rows : List Row
  pub read : is rows end ≡ i
  pub counts : count ≡ length rows

pub counted : (i : Way (List Row)) (count end : ℕ) → is count end ≡ through length i → Counted i count end
counted (is rows p) count end e =
    record { rows = rows; read = ap (is rows) (same_place count (length rows) end p e); counts = same_value count (length rows) end p e }
counted (not why place) count end e = absurd (unread why place count end (sym e))
