-- Each item by an input that is refused there: which item is told, which rule it breaks, and where.
-- Assumes nothing.
use Rattle.std.specs.Prelude.{◌≡◌, refl, ℕ, List, [], ◌∷◌, ◌++◌, take, replicate}
use Rattle.format.specs.Bytes.{All}
use Rattle.format.specs.BigEndian.{val}
use Rattle.pairs.specs.Chart.{the_chart, value_of}
use Rattle.pairs.specs.Pairs.{pair_of, single, values}
use Rattle.c40.specs.Decode.{decode}
use Rattle.dates.specs.Days.{is_day}
use Rattle.der.specs.Length.{read_length, long_form}
use Rattle.grammar.specs.Examples.{seal_a, signed_b}
use Rattle.causes.specs.declared.Item.{Item}
use Rattle.causes.specs.declared.Item.TheVariants as item
use Rattle.causes.specs.declared.Rule.{Rule}
use Rattle.causes.specs.declared.Rule.TheVariants as rule
use Rattle.verdict.specs.Items.{not, why}
use Rattle.verdict.specs.Judge.{header, tag, row, features, signature, reading, judging}

record Told : Type 0 where
  bytes : List ℕ
  item : Item
  rule : Rule
  place : ℕ

told : List ℕ → Item → Rule → ℕ → Told
told bytes item rule place = record { bytes = bytes; item = item; rule = rule; place = place }

abbrev IsTold : Told → Type 0
IsTold t = judging t.bytes ≡ not (why t.item t.rule) t.place

-- Seal A cut short in each item, and with a byte too many; the version 4 items; and what is too long
examples : List Told
examples =
    told (replicate 4097 0) item.Seal rule.NotTooLong 4096
    ∷ told [] item.Mark rule.There 0
    ∷ told (0xDC ∷ 0x04 ∷ []) item.Version rule.IsVersion 1
    ∷ told (take 3 seal_a) item.Country rule.There 2
    ∷ told (take 9 seal_a) item.Names rule.There 4
    ∷ told (take 7 signed_b) item.SignerAndLength rule.There 4
    ∷ told (take 9 signed_b) (item.Reference 8) rule.There 8
    ∷ told (take 12 seal_a) item.Issued rule.There 10
    ∷ told (take 15 seal_a) item.Signed rule.There 13
    ∷ told (take 16 seal_a) item.Definition rule.There 16
    ∷ told (take 17 seal_a) item.Category rule.There 17
    ∷ told (take 18 seal_a) item.Tag rule.There 18
    ∷ told (take 19 seal_a) item.Length rule.There 19
    ∷ told (take 23 seal_a) item.Value rule.There 20
    ∷ told (take 25 seal_a) item.SignatureLength rule.There 25
    ∷ told (take 24 seal_a ++ (0xFF ∷ 0x39 ∷ [])) item.SignatureLength rule.SignatureSize 25
    ∷ told (take 81 seal_a) item.Signature rule.There 26
    ∷ told (seal_a ++ (0 ∷ [])) item.End rule.NothingAfter 82
    ∷ []

all_told : All IsTold examples
unfolding examples told judging reading header tag row features signature decode pair_of single values the_chart value_of is_day read_length
    long_form val
all_told = (
  refl,
  (
    refl,
    (refl, (refl, (refl, (refl, (refl, (refl, (refl, (refl, (refl, (refl, (refl, (refl, (refl, (refl, (refl, (refl, tt)))))))))))))))),
  ),
)
