-- Computed examples of the items: each number at a place that tells it from the others, and the bounds of what is taken.
-- Assumes nothing.
use Rattle.std.specs.Prelude.{◌≡◌, refl, [], ◌∷◌}
use Rattle.std.proofs.Math.Option.{none, some}
use Rattle.pairs.specs.Chart.{the_chart, value_of}
use Rattle.pairs.specs.Pairs.{pair_of, single, values}
use Rattle.c40.specs.Decode.{text, decode}
use Rattle.der.specs.Length.{read_length, long_form}
use Rattle.dates.specs.Days.{is_day}
use Rattle.format.specs.BigEndian.{val}
use Rattle.grammar.specs.Content.{three, four}
use Rattle.causes.specs.declared.Rule.TheVariants as rule
use Rattle.causes.specs.declared.Item.TheVariants as item
use Rattle.verdict.specs.Items.{is, not, why, wrong_at, exactly, in_country, in_six, in_nine, in_reference, mark, version, country, names}
use Rattle.verdict.specs.Items.{date, last, der_length, feature_length}

-- the first two bytes
marks : (mark 0 (0xDC ∷ []) ≡ is tt 1) × (mark 0 (0xDD ∷ []) ≡ not rule.IsMark 0) × (mark 0 [] ≡ not rule.There 0)
marks = (refl, refl, refl)

versions :
    (version 1 (0xDC ∷ 2 ∷ []) ≡ is three 2) × (version 1 (0xDC ∷ 3 ∷ []) ≡ is four 2) × (version 1 (0xDC ∷ 4 ∷ []) ≡ not rule.IsVersion 1)
versions = (refl, refl, refl)

-- `D<<`; FA 01, which is no C40, and FE 42, which is one character
countries :
    (country 0 (0x6A ∷ 0xBC ∷ []) ≡ is (68 ∷ 60 ∷ 60 ∷ []) 2)
    × (country 1 (0xDC ∷ 0xFA ∷ 0x01 ∷ []) ≡ not rule.WellCoded 1)
    × (country 1 (0xDC ∷ 0xFE ∷ 0x42 ∷ []) ≡ not rule.WellCoded 1)
    × (country 0 (0x6A ∷ []) ≡ not rule.There 0)
unfolding decode pair_of single values the_chart value_of
countries = (refl, refl, refl, refl)

-- the place of a pair that is wrongly coded, and of a last pair that does not fit
pairs :
    (exactly 6 (decode 0 (0xDE ∷ 0x51 ∷ 0xFA ∷ 0x01 ∷ [])) ≡ wrong_at 2) × (exactly 4 (text (86 ∷ 73 ∷ 83 ∷ 65 ∷ 48 ∷ 49 ∷ [])) ≡ wrong_at 2)
unfolding decode pair_of single values the_chart value_of
pairs = (refl, refl)

-- version 3, nine characters after a byte: `1TAB00001` has a wrong character, and is told at the item; with its second or third pair
-- wrongly coded, that pair is told
nine_pairs :
    (names three 1 (0 ∷ 0x24 ∷ 0x77 ∷ 0x5E ∷ 0x65 ∷ 0x19 ∷ 0xA6 ∷ []) ≡ not (why item.Names rule.SignerCharacters) 1)
    × (names three 1 (0 ∷ 0x24 ∷ 0x77 ∷ 0xFA ∷ 0x01 ∷ 0x19 ∷ 0xA6 ∷ []) ≡ not (why item.Names rule.WellCoded) 3)
    × (names three 1 (0 ∷ 0x24 ∷ 0x77 ∷ 0x5E ∷ 0x65 ∷ 0xFE ∷ 0x42 ∷ []) ≡ not (why item.Names rule.WellCoded) 5)
unfolding decode pair_of single values the_chart value_of
nine_pairs = (refl, refl, refl)

-- version 4: the two pairs of `UTAB04`, the second of them short; `UTAB00`; and the reference by L: one character where two are due, three
-- where one is, a space that fits, and a wrong pair behind one with a wrong character
four_pairs :
    (names four 1 (0 ∷ 0xD9 ∷ 0xB7 ∷ 0xFE ∷ 0x42 ∷ []) ≡ not (why item.SignerAndLength rule.WellCoded) 3)
    × (names four 1 (0 ∷ 0xD9 ∷ 0xB7 ∷ 0x5E ∷ 0x65 ∷ []) ≡ not (why item.SignerAndLength rule.NotZero) 1)
    × (names four 0 (0xD9 ∷ 0xB7 ∷ 0x5E ∷ 0x67 ∷ 0xFE ∷ 0x42 ∷ []) ≡ not (why (item.Reference 2) rule.WellCoded) 4)
    × (names four 0 (0xD9 ∷ 0xB7 ∷ 0x5E ∷ 0x69 ∷ 0x19 ∷ 0xA6 ∷ 0x19 ∷ 0xA6 ∷ []) ≡ not (why (item.Reference 4) rule.WellCoded) 6)
    × (names four 0 (0xD9 ∷ 0xB7 ∷ 0x5E ∷ 0x66 ∷ 0xFE ∷ 0x21 ∷ []) ≡ not (why (item.Reference 2) rule.ReferenceCharacters) 4)
    × (names four 0 (0xD9 ∷ 0xB7 ∷ 0x5E ∷ 0x69 ∷ 0x6A ∷ 0xBC ∷ 0xFE ∷ 0x41 ∷ []) ≡ not (why (item.Reference 4) rule.WellCoded) 6)
unfolding decode pair_of single values the_chart value_of
four_pairs = (refl, refl, refl, refl, refl, refl)

-- the first rule that is broken: `UT<` with its filler first; `UTAB` with a digit first, no digits or 00; a space in the reference
in_country_lem : (in_country (85 ∷ 84 ∷ 32 ∷ []) ≡ none) × (in_country (32 ∷ 85 ∷ 84 ∷ []) ≡ some rule.CountryCode)
in_country_lem = (refl, refl)

in_six_lem : (in_six (85 ∷ 84 ∷ 65 ∷ 66 ∷ 48 ∷ 53 ∷ []) ≡ none)
    × (in_six (49 ∷ 84 ∷ 65 ∷ 66 ∷ 71 ∷ 48 ∷ []) ≡ some rule.SignerCharacters)
    × (in_six (85 ∷ 84 ∷ 65 ∷ 66 ∷ 71 ∷ 48 ∷ []) ≡ some rule.HexadecimalDigits)
    × (in_six (85 ∷ 84 ∷ 65 ∷ 66 ∷ 48 ∷ 48 ∷ []) ≡ some rule.NotZero)
in_six_lem = (refl, refl, refl, refl)

in_nine_lem : (in_nine (85 ∷ 84 ∷ 65 ∷ 66 ∷ 48 ∷ 48 ∷ 48 ∷ 48 ∷ 49 ∷ []) ≡ none)
    × (in_nine (49 ∷ 84 ∷ 65 ∷ 66 ∷ 32 ∷ 48 ∷ 48 ∷ 48 ∷ 49 ∷ []) ≡ some rule.SignerCharacters)
    × (in_nine (85 ∷ 84 ∷ 65 ∷ 66 ∷ 32 ∷ 48 ∷ 48 ∷ 48 ∷ 49 ∷ []) ≡ some rule.ReferenceCharacters)
in_nine_lem = (refl, refl, refl)

in_reference_lem : (in_reference (55 ∷ []) ≡ none) × (in_reference (32 ∷ []) ≡ some rule.ReferenceCharacters)
in_reference_lem = (refl, refl)

-- version 4, signer UTAB and reference 7
named_7 :
    names four 0 (0xD9 ∷ 0xB7 ∷ 0x5E ∷ 0x66 ∷ 0xFE ∷ 0x38 ∷ []) ≡ is (record { signer = 85 ∷ 84 ∷ 65 ∷ 66 ∷ []; reference = 55 ∷ [] }) 6
unfolding decode pair_of single values the_chart value_of
named_7 = refl

-- 25 March 1957; no such date: nothing but zeros, and 30 February 1957; and one that is cut short
dates :
    (date 0 (0x31 ∷ 0x9E ∷ 0xF5 ∷ []) ≡ is (record { month = 3; day = 25; year = 1957 }) 3)
    × (date 0 (0 ∷ 0 ∷ 0 ∷ []) ≡ not rule.IsDay 0)
    × (date 0 (0x23 ∷ 0x20 ∷ 0x05 ∷ []) ≡ not rule.IsDay 0)
    × (date 0 (0 ∷ 0 ∷ []) ≡ not rule.There 0)
unfolding is_day val
dates = (refl, refl, refl, refl)

lasts :
    (last 0 (0 ∷ []) ≡ not rule.OneTo254 0)
    × (last 0 (1 ∷ []) ≡ is 1 1)
    × (last 0 (254 ∷ []) ≡ is 254 1)
    × (last 0 (255 ∷ []) ≡ not rule.OneTo254 0)
lasts = (refl, refl, refl, refl)

-- 80 is 128 in version 3, and no length in version 4; 81 is 129 there, and begins a length here
plain :
    (feature_length three 0 (0x80 ∷ []) ≡ is 128 1)
    × (feature_length three 0 (0x81 ∷ []) ≡ is 129 1)
    × (feature_length three 0 (0xFF ∷ []) ≡ is 255 1)
plain = (refl, refl, refl)

der :
    (feature_length four 0 (0x80 ∷ []) ≡ not rule.BeginsLength 0)
    × (feature_length four 0 (0x81 ∷ []) ≡ not rule.RestThere 0)
    × (feature_length four 0 (0x81 ∷ 0x7F ∷ []) ≡ not rule.Shortest 0)
    × (feature_length four 0 (0x81 ∷ 0x80 ∷ []) ≡ is 128 2)
unfolding read_length long_form val
der = (refl, refl, refl, refl)

der_anywhere : der_length 1 (0 ∷ 0x38 ∷ []) ≡ is 56 2
unfolding read_length long_form
der_anywhere = refl
