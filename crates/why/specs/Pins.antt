-- What is told of some byte strings, a rule each: number, place, item, rule, and where and how many bytes were judged.
-- Assumes nothing.
use Rattle.std.specs.Prelude.{◌≡◌, refl, ℕ, List, [], ◌∷◌, ◌++◌, take, replicate}
use Rattle.format.specs.Bytes.{All}
use Rattle.format.specs.BigEndian.{val}
use Rattle.pairs.specs.Chart.{the_chart, value_of}
use Rattle.pairs.specs.Pairs.{pair_of, single, values}
use Rattle.c40.specs.Decode.{decode}
use Rattle.dates.specs.Days.{is_day}
use Rattle.der.specs.Length.{read_length, long_form}
use Rattle.grammar.specs.Examples.{seal_a, signed_b}
use Rattle.verdict.specs.Judge.{header, tag, row, features, signature, reading, judging}
use Rattle.why.specs.declared.Reason.{Reason}
use Rattle.why.specs.Told.{nothing, told}

record Example : Type 0 where
  bytes : List ℕ
  reason : Reason

-- bytes, and of their reason number, place, item, rule and how many bytes were judged
of : List ℕ → ℕ → ℕ → ℕ → ℕ → ℕ → Example
of bytes number place item rule size = record {
  bytes = bytes;
  reason = record { number = number; place = place; item = item; rule = rule; judged = record { place = place; length = size } };
}

abbrev IsTold : Example → Type 0
IsTold e = told e.bytes ≡ e.reason

-- what is too long, Seal A cut short or changed up to its signature date, and the front of Seal B
front : List Example
front =
    of (replicate 4097 0) 1 4096 1 1 1
    ∷ of [] 2 0 2 2 0
    ∷ of (0x00 ∷ []) 3 0 2 3 1
    ∷ of (0xDC ∷ 0x04 ∷ []) 4 1 3 4 1
    ∷ of (take 3 seal_a) 2 2 4 2 1
    ∷ of (0xDC ∷ 0x02 ∷ 0xFA ∷ 0x01 ∷ []) 5 2 4 5 2
    ∷ of (0xDC ∷ 0x02 ∷ 0x6A ∷ 0x21 ∷ []) 5 2 4 12 2
    ∷ of (take 9 seal_a) 2 4 5 2 5
    ∷ of (take 8 seal_a ++ (0x00 ∷ 0x00 ∷ [])) 5 8 5 5 2
    ∷ of (take 9 signed_b) 2 8 7 2 1
    ∷ of (take 12 seal_a) 2 10 8 2 2
    ∷ of (take 10 seal_a ++ (0 ∷ 0 ∷ 0 ∷ [])) 6 10 8 6 3
    ∷ []

front_told : All IsTold front
unfolding front of told judging reading header tag row features signature decode pair_of single values the_chart value_of is_day read_length
    long_form val
front_told = (refl, (refl, (refl, (refl, (refl, (refl, (refl, (refl, (refl, (refl, (refl, (refl, tt))))))))))))

-- Seal A cut short or changed behind that
back : List Example
back =
    of (take 16 seal_a ++ (0xFF ∷ [])) 7 16 10 7 1
    ∷ of (take 24 seal_a ++ (0x0A ∷ [])) 9 24 12 9 1
    ∷ of (take 23 seal_a) 2 20 14 2 3
    ∷ of (take 24 seal_a ++ (0xFF ∷ 0x80 ∷ [])) 8 25 15 8 1
    ∷ of (take 24 seal_a ++ (0xFF ∷ 0x82 ∷ 0x01 ∷ [])) 2 25 15 17 2
    ∷ of (take 24 seal_a ++ (0xFF ∷ 0x81 ∷ 0x7F ∷ [])) 8 25 15 18 2
    ∷ of (take 24 seal_a ++ (0xFF ∷ 0x81 ∷ 0x83 ∷ [])) 10 25 15 10 2
    ∷ of (take 81 seal_a) 2 26 16 2 55
    ∷ of (seal_a ++ (0 ∷ 0 ∷ [])) 11 82 17 11 1
    ∷ []

back_told : All IsTold back
unfolding back of told judging reading header tag row features signature decode pair_of single values the_chart value_of is_day read_length
    long_form val
back_told = (refl, (refl, (refl, (refl, (refl, (refl, (refl, (refl, (refl, tt)))))))))

accepted : told seal_a ≡ nothing
unfolding told judging reading header tag row features signature decode pair_of single values the_chart value_of is_day read_length long_form val
accepted = refl
