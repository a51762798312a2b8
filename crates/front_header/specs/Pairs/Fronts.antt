-- As many bytes as can be completed to a pair are the longest front part with which the published form of such a text
-- begins, kind by kind: the readers of the header's pairs.
-- Assumes nothing.
use Rattle.c40.specs.Text.{publish as c40}
use Rattle.grammar.specs.Legal.{Country}
use Rattle.front.specs.Items.{Reader, country_item, First, Characters, Counted, counted_item}
use Rattle.front_pairs.specs.Pairs.{pair_front}
use Rattle.front_pairs.specs.declared.Kind.TheVariants as kind
use Rattle.front_header.specs.Pairs.Items.{item_reader, first_sound, first_complete, triple_sound, triple_complete}
use Rattle.front_header.specs.Pairs.Items.{two_sound, two_complete, one_sound, one_complete}
use Rattle.front_header.specs.Pairs.Country.{country_sound, country_complete}
use Rattle.front_header.specs.Pairs.Counted.{counted_sound, counted_complete}

-- the country
pub country_reader : Reader Country country_item 2 (pair_front kind.Country)
country_reader = item_reader kind.Country Country country_item country_sound country_complete

-- the signer's first three characters
pub signer_reader : Reader First c40 2 (pair_front kind.Signer)
signer_reader = item_reader kind.Signer First c40 first_sound first_complete

-- three letters or digits
pub triple_reader : Reader (Characters 3) c40 2 (pair_front kind.Triple)
triple_reader = item_reader kind.Triple (Characters 3) c40 triple_sound triple_complete

-- the signer's last character and the reference's length
pub length_reader : Reader Counted counted_item 2 (pair_front kind.Length)
length_reader = item_reader kind.Length Counted counted_item counted_sound counted_complete

-- two characters, and one, that end a reference
pub two_reader : Reader (Characters 2) c40 2 (pair_front kind.Two)
two_reader = item_reader kind.Two (Characters 2) c40 two_sound two_complete

pub one_reader : Reader (Characters 1) c40 2 (pair_front kind.One)
one_reader = item_reader kind.One (Characters 1) c40 one_sound one_complete
