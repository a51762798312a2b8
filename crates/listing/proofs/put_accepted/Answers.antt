-- `listing::put_accepted` meets its contract: the first line, the header in two parts, the features, the signature.
-- Assumes nothing.
use Rattle.lines.specs.Written.Laws.{puts_more}
use Rattle.listing.specs.Listing.{accepted}
use Rattle.listing.proofs.put_accepted.Goals as goal

pub returns : goal.returns
unfolding accepted
returns c =
    puts_more _ _ _ _ _ c.text.ensures
    (puts_more _ _ _ _ _ c.put_names.ensures
    (puts_more _ _ _ _ _ c.put_dates.ensures (puts_more _ _ _ _ _ c.put_features.ensures c.put_signature.ensures)))
