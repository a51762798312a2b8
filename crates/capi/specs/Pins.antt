-- Computed examples of the calls: their answers, from the input to the struct.
-- Assumes nothing.
use Rattle.std.specs.Prelude.{◌≡◌, refl, [], ◌∷◌, pos, negsuc, replicate}
use Rattle.format.specs.BigEndian.{val}
use Rattle.format.specs.Answers.{told}
use Rattle.dates.specs.Days.{is_day}
use Rattle.dates.specs.Calls.{from_number, to_number}
use Rattle.pairs.specs.Chart.{the_chart, value_of}
use Rattle.pairs.specs.Pairs.{pair_of, single, values}
use Rattle.c40.specs.Decode.{decode}
use Rattle.c40.specs.Calls.{reading as read_text, known, writing as write_text}
use Rattle.der.specs.Length.{read_length, long_form}
use Rattle.der.specs.Element.{element_in}
use Rattle.der.specs.Content.{shortest, strict}
use Rattle.integers.specs.Calls.{reading as read_integer}
use Rattle.ecdsa.specs.Signature.{is_size}
use Rattle.ecdsa.specs.Strict.{raw_of}
use Rattle.ecdsa.specs.Calls.{to_der, to_raw, hash_for}
use Rattle.write_given.specs.Given.{given}
use Rattle.write_judge.specs.Calls.{writing}
use Rattle.face.specs.Face.{filled_with, filled_of, dated_of, numbered_of, integer_of, hashed_of}

-- the writer: version 5
version_5 :
    filled_of
    (told
    (writing
    (given
    (record {
      version = 5;
      country = [];
      length = 0;
      issued = record { month = 0; day = 0; year = 0 };
      signed = record { month = 0; day = 0; year = 0 };
      definition = 0;
      category = 0;
    })
    [] [] [] [])
    0))
    ≡ filled_with 20 0 0
unfolding writing
version_5 = refl

-- C40: FA 01 as the second pair, and `<` as the third character
wrong_pair : filled_of (told (read_text (0xEB ∷ 0x11 ∷ 0xFA ∷ 0x01 ∷ []) 6)) ≡ filled_with 41 2 0
unfolding read_text decode pair_of single values the_chart
wrong_pair = refl

stranger : filled_of (told (write_text (86 ∷ 73 ∷ 60 ∷ []) 2)) ≡ filled_with 43 2 0
unfolding write_text known the_chart value_of
stranger = refl

-- dates: 25 March 1957, and day 32
march : dated_of (from_number 3251957) ≡ record { number = 0; place = 0; date = record { month = 3; day = 25; year = 1957 } }
unfolding from_number is_day
march = refl

day_32 : dated_of (from_number 3321957) ≡ record { number = 6; place = 0; date = record { month = 0; day = 0; year = 0 } }
unfolding from_number is_day
day_32 = refl

march_back : numbered_of (to_number (record { month = 3; day = 25; year = 1957 })) ≡ record { number = 0; place = 0; value = 3251957 }
unfolding to_number is_day
march_back = refl

year_0 : numbered_of (to_number (record { month = 3; day = 25; year = 0 })) ≡ record { number = 22; place = 0; value = 0 }
unfolding to_number is_day
year_0 = refl

-- INTEGERs: -129, and one cut short
minus_129 : integer_of (read_integer (0x02 ∷ 0x02 ∷ 0xFF ∷ 0x7F ∷ [])) ≡ record { number = 0; place = 0; value = negsuc 128 }
unfolding read_integer element_in read_length long_form shortest strict val
minus_129 = refl

cut : integer_of (read_integer (0x02 ∷ 0x02 ∷ 0xFF ∷ [])) ≡ record { number = 65; place = 0; value = pos 0 }
unfolding read_integer element_in read_length long_form
cut = refl

-- signatures: a raw length that is not 2n, what is no DER, and the hash
wrong_length : filled_of (told (to_der 32 (replicate 56 0) 80)) ≡ filled_with 61 0 0
unfolding to_der is_size
wrong_length = refl

no_der : filled_of (told (to_raw 28 [] 56)) ≡ filled_with 62 0 0
unfolding to_raw is_size raw_of element_in
no_der = refl

hash_66 : hashed_of (hash_for 66) ≡ record { number = 0; place = 0; bits = 512 }
unfolding hash_for
hash_66 = refl

hash_40 : hashed_of (hash_for 40) ≡ record { number = 60; place = 0; bits = 0 }
unfolding hash_for
hash_40 = refl
