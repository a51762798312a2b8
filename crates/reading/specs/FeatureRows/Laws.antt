-- Features that were judged are read again as their rows, and end inside the seal.
-- Assumes nothing.
use Rattle.std.specs.Prelude.{◌≡◌, refl, ℕ, zero, suc, ◌+◌, ◌<◌, List, [], ◌∷◌, ◌++◌, eqb, length, take, drop, get_or}
use Rattle.std.proofs.Common.{ap, sym, subst, ◌∙◌, arith, append_assoc, append-nil}
use Rattle.format.specs.Choice.{pick}
use Rattle.format.specs.Choice.Laws.{by_test}
use Rattle.grammar.specs.Content.{Version}
use Rattle.causes.specs.declared.Item.TheVariants as item
use Rattle.causes.specs.declared.Rule.TheVariants as rule
use Rattle.verdict.specs.Items.{Way, is, not, why, pass, byte, plain_in}
use Rattle.verdict.proofs.Items.Laws.{unread, whole_read}
use Rattle.verdict.proofs.Items.Sound.{steps, steps_on, same_value, same_place}
use Rattle.read_items.specs.Meaning.Laws.{whole_is, read_byte}
use Rattle.verdict.specs.Judge.{Row, used, tag_in, tag, row, features}
use Rattle.reading.specs.FeatureRows.{rows_at, rows_read, AreRead}

-- a tag that was read is the byte there
pub tag_plain : (rows : List Row) (at : ℕ) (s : List ℕ) (x after : ℕ) → tag rows at s ≡ is x after → byte at s (plain_in at) ≡ is x after
unfolding tag
tag_plain rows at s x after e =
    let w = whole_read 1 at s (λ b. tag_in rows at (get_or b 0 0)) x after e in
    let y = get_or (take 1 (drop at s)) 0 0 in
    whole_is 1 at s (λ b. plain_in at (get_or b 0 0)) w.there
    ∙ by_test (used y rows)
    (λ t. absurd (unread rule.NotUsedBefore at x after (sym (ap (λ c. pick c (not rule.NotUsedBefore at) (is y (at + 1))) t) ∙ w.read)))
    (λ t. sym (ap (λ c. pick c (not rule.NotUsedBefore at) (is y (at + 1))) t) ∙ w.read)

-- features that were judged, after those before: the rows that are added, which are read again
pub record Again (v : Version) (before : List Row) (at : ℕ) (s : List ℕ) (rows : List Row) (end : ℕ) : Type 0 where
  pub added : List Row
  pub all : rows ≡ before ++ added
  pub again : rows_at (length added) v at s ≡ is added end
  pub ends : end < length s

-- one row more in front of those that are read again
one_more :
    (v : Version) (before : List Row) (at mid after : ℕ) (s : List ℕ) (x : ℕ) (r : Row) (rows : List Row) (end : ℕ) →
    byte at s (plain_in at) ≡ is x mid →
    row v x at mid s ≡ is r after →
    Again v (before ++ (r ∷ [])) after s rows end →
    Again v before at s rows end
unfolding rows_at
one_more v before at mid after s x r rows end b e g = record {
  added = r ∷ g.added;
  all = g.all ∙ append_assoc before (r ∷ []) g.added;
  again = rw (b, e, g.again) refl;
  ends = g.ends;
}

pub features_again :
    (more : ℕ) (v : Version) (before : List Row) (at : ℕ) (s : List ℕ) (rows : List Row) (end : ℕ) →
    features more v before at s ≡ is rows end →
    Again v before at s rows end
unfolding features rows_at
features_again zero v before at s rows end e = absurd (unread (why item.Tag rule.NotUsedBefore) at rows end e)
features_again (suc more) v before at s rows end e =
    let i = steps_on item.Tag (tag before at s) _ rows end e in
    let x = i.value in
    let plain = tag_plain before at s x i.at i.read in
    let rest = pass (row v x at i.at s) (λ r at. features more v (before ++ (r ∷ [])) at s) in
    by_test (eqb x 0xFF)
    (λ f.
    let g : ◌≡◌ {A = Way (List Row)} (is before at) (is rows end) = sym (ap (λ b. pick b (is before at) rest) f) ∙ i.goes_on_lem in
    let place = same_place before rows at end g in
    record {
      added = [];
      all = sym (same_value before rows at end g) ∙ sym (append-nil before);
      again = ap (is []) place;
      ends = omega (arith, (read_byte at s x i.at (sym plain)).there, place);
    })
    (λ f.
    let g : rest ≡ is rows end = sym (ap (λ b. pick b (is before at) rest) f) ∙ i.goes_on_lem in
    let j = steps (row v x at i.at s) (λ r at. features more v (before ++ (r ∷ [])) at s) rows end g in
    let ih = features_again more v (before ++ (j.value ∷ [])) j.at s rows end j.goes_on_lem in
    one_more v before at i.at j.at s x j.value rows end plain j.read ih)

-- the rows of a seal's features, read again
pub rows_again :
    (more : ℕ) (v : Version) (at : ℕ) (s : List ℕ) (rows : List Row) (end : ℕ) →
    features more v [] at s ≡ is rows end →
    rows_at (length rows) v at s ≡ is rows end
rows_again more v at s rows end e =
    let g = features_again more v [] at s rows end e in
    subst (λ z. rows_at (length z) v at s ≡ is z end) (sym g.all) g.again

-- FF stands inside the seal
pub mark_inside :
    (more : ℕ) (v : Version) (before : List Row) (at : ℕ) (s : List ℕ) (rows : List Row) (end : ℕ) →
    features more v before at s ≡ is rows end →
    end < length s
mark_inside more v before at s rows end e = (features_again more v before at s rows end e).ends

-- so many rows as were counted are there, and they are those
module _ (more : ℕ) (v : Version) (at : ℕ) (s : List ℕ) (rows : List Row) (end count : ℕ) (e : features more v [] at s ≡ is rows end)
    (counted : count ≡ length rows) where
  counted_again : rows_at count v at s ≡ is rows end
  counted_again = ap (λ k. rows_at k v at s) counted ∙ rows_again more v at s rows end e

  pub rows_there : AreRead (rows_at count v at s)
  rows_there = subst AreRead (sym counted_again) tt

  pub rows_are : rows_read (rows_at count v at s) ≡ rows
  rows_are = ap rows_read counted_again
