-- The items of a seal, each read at a place (document 01, "Reader"): the item and the place after it, or the rule that it breaks and the
-- place that is told.
-- Assumes nothing.
pub mod Pins
use Rattle.std.specs.Prelude.{Bool, ℕ, ◌+◌, ◌-◌, ◌*◌, List, Result, Ok, Err, map, ltb, eqb, length, take, drop, get_or}
use Rattle.std.proofs.Math.Option.{Option, none, some}
use Rattle.format.specs.Choice.{pick, both, within}
use Rattle.format.specs.BigEndian.{val}
use Rattle.format.specs.Hex.{hex_value}
use Rattle.c40.specs.Text.{width}
use Rattle.c40.specs.Decode.{Decoded, text, wrong, decode}
use Rattle.dates.specs.declared.Date.{Date}
use Rattle.dates.specs.Days.{is_day, date_of}
use Rattle.versions.specs.Versions.{version_of_byte}
use Rattle.der.specs.Length.{read_length}
use Rattle.der.specs.declared.Length.{Length}
use Rattle.der.specs.declared.Fault.{Fault}
use Rattle.der.specs.declared.Fault.TheVariants as fault
use Rattle.causes.specs.declared.Item.{Item as Name}
use Rattle.causes.specs.declared.Item.TheVariants as item
use Rattle.causes.specs.declared.Rule.{Rule}
use Rattle.causes.specs.declared.Rule.TheVariants as rule
use Rattle.causes.specs.declared.Why.{Why}
use Rattle.grammar.specs.Content.{Version, three, four}
use Rattle.fields.specs.Characters.{is_reference, is_country, is_signer, all, shown}

-- what is read and the place after it, or why it is not read, and the place
pub data Read (R A : Type 0) : Type 0 where
  is : A → ℕ → Read R A
  not : R → ℕ → Read R A

-- an item by itself: the rule that it breaks
abbrev pub Item : Type 0 → Type 0
Item A = Read Rule A

-- items one after another: which item breaks which rule
abbrev pub Way : Type 0 → Type 0
Way A = Read Why A

abbrev pub why : Name → Rule → Why
why item rule = record { item = item; rule = rule }

-- an item that is not read ends the reading there, under its name
abbrev pub next : {A B : Type 0} → Name → Item A → (A → ℕ → Way B) → Way B
next item (is a at) rest = rest a at
next item (not rule place) rest = not (why item rule) place

-- the same after what is named already
abbrev pub pass : {R A B : Type 0} → Read R A → (A → ℕ → Read R B) → Read R B
pass (is a at) rest = rest a at
pass (not why place) rest = not why place

-- an item of k bytes: whether it is cut short is told before its content is judged
abbrev pub whole : {A : Type 0} → ℕ → ℕ → List ℕ → (List ℕ → Item A) → Item A
whole k at s judged = pick (ltb (length s) (at + k)) (not rule.There at) (judged (take k (drop at s)))

-- one byte
abbrev pub byte : {A : Type 0} → ℕ → List ℕ → (ℕ → Item A) → Item A
byte at s judged = whole 1 at s (λ b. judged (get_or b 0 0))

-- byte DC
abbrev pub mark_in : ℕ → ℕ → Item Unit
mark_in at x = pick (eqb x 0xDC) (is tt (at + 1)) (not rule.IsMark at)

abbrev pub mark : ℕ → List ℕ → Item Unit
mark at s = byte at s (mark_in at)

-- the version of a byte: 02 is version 3, 03 is version 4
abbrev pub version_at : ℕ → Option Version → Item Version
version_at at (some v) = is v (at + 1)
version_at at none = not rule.IsVersion at

abbrev pub version_in : ℕ → ℕ → Item Version
version_in at x = version_at at (version_of_byte x)

abbrev pub version : ℕ → List ℕ → Item Version
version at s = byte at s (version_in at)

-- text of exactly so many characters, or the place in its bytes of the first pair that is wrongly coded
pub data Exact : Type 0 where
  exact : List ℕ → Exact
  wrong_at : ℕ → Exact

-- where all pairs are text of another length, it is the last one that does not fit
abbrev pub exactly : ℕ → Decoded → Exact
exactly k (text t) = pick (eqb (length t) k) (exact t) (wrong_at (width k - 2))
exactly k (wrong fault at) = wrong_at at

-- rules in order: the first that is broken
abbrev pub unless : Bool → Rule → Option Rule → Option Rule
unless kept rule later = pick kept later (some rule)

abbrev pub judged_by : Option Rule → List ℕ → ℕ → ℕ → Item (List ℕ)
judged_by none t at after = is t after
judged_by (some rule) t at after = not rule at

-- a field of k characters, and the rule that they break, if any: a wrongly coded pair is told at its own first byte, and a wrong character
-- alone at the item's (document 02, Ticket 1)
abbrev pub field_in : ℕ → (List ℕ → Option Rule) → ℕ → Exact → Item (List ℕ)
field_in k broken at (exact t) = judged_by (broken t) t at (at + width k)
field_in k broken at (wrong_at pair) = not rule.WellCoded (at + pair)

abbrev pub field : ℕ → (List ℕ → Option Rule) → ℕ → List ℕ → Item (List ℕ)
field k broken at s = whole (width k) at s (λ bytes. field_in k broken at (exactly k (decode 0 bytes)))

abbrev pub in_country : List ℕ → Option Rule
in_country t = unless (is_country 32 t) rule.CountryCode none

abbrev pub country : ℕ → List ℕ → Item (List ℕ)
country at s = pass (field 3 in_country at s) (λ t at. is (map shown t) at)

-- signer and reference
pub record Names : Type 0 where
  pub signer : List ℕ
  pub reference : List ℕ

-- the length that the last two of six characters give, and whether they are upper-case hexadecimal digits
abbrev pub length_in : List ℕ → ℕ
length_in t = hex_value (get_or t 4 0) * 16 + hex_value (get_or t 5 0)

abbrev pub is_hex : List ℕ → Bool
is_hex t = both (ltb (hex_value (get_or t 4 0)) 16) (ltb (hex_value (get_or t 5 0)) 16)

-- signer and two digits, which are not 00
abbrev pub in_six : List ℕ → Option Rule
in_six t =
    unless (is_signer (take 4 t)) rule.SignerCharacters
    (unless (is_hex t) rule.HexadecimalDigits
    (unless (ltb 0 (length_in t)) rule.NotZero none))

-- signer and five characters of a reference
abbrev pub in_nine : List ℕ → Option Rule
in_nine t =
    unless (is_signer (take 4 t)) rule.SignerCharacters
    (unless (all is_reference (drop 4 t)) rule.ReferenceCharacters none)

abbrev pub in_reference : List ℕ → Option Rule
in_reference t = unless (all is_reference t) rule.ReferenceCharacters none

-- the signer of six characters, and the reference
abbrev pub named : List ℕ → List ℕ → ℕ → Way Names
named six t at = is (record { signer = take 4 six; reference = t }) at

-- the reference after six characters that give its length
abbrev pub after : List ℕ → List ℕ → ℕ → Way Names
after s six at = next (item.Reference (width (length_in six))) (field (length_in six) in_reference at s) (named six)

-- version 3: nine characters; version 4: the first four bytes and then the reference
abbrev pub names : Version → ℕ → List ℕ → Way Names
names three at s =
    next item.Names (field 9 in_nine at s)
    (λ t at. is (record { signer = take 4 t; reference = drop 4 t }) at)
names four at s = next item.SignerAndLength (field 6 in_six at s) (after s)

-- a date's three bytes
abbrev pub date_in : ℕ → Date → Item Date
date_in at d = pick (is_day d) (is d (at + 3)) (not rule.IsDay at)

abbrev pub date : ℕ → List ℕ → Item Date
date at s = whole 3 at s (λ bytes. date_in at (date_of (val bytes 3)))

-- definition reference and category: 1 to 254
abbrev pub last_in : ℕ → ℕ → Item ℕ
last_in at x = pick (within 1 254 x) (is x (at + 1)) (not rule.OneTo254 at)

abbrev pub last : ℕ → List ℕ → Item ℕ
last at s = byte at s (last_in at)

-- a DER length at a place: its first byte is there, then is judged, then the rest is there, then it is the shortest
abbrev pub length_rule : Fault → Rule
length_rule fault.NoByte = rule.There
length_rule fault.FirstByte = rule.BeginsLength
length_rule fault.Cut = rule.RestThere
length_rule fault.NotShortest = rule.Shortest

abbrev pub der_of : ℕ → Result Length Fault → Item ℕ
der_of at (Ok l) = is l.size (at + l.width)
der_of at (Err fault) = not (length_rule fault) at

abbrev pub der_length : ℕ → List ℕ → Item ℕ
der_length at s = der_of at (read_length (drop at s))

abbrev pub plain_in : ℕ → ℕ → Item ℕ
plain_in at x = is x (at + 1)

-- a feature's length is one plain byte in version 3 and a DER length in version 4
abbrev pub feature_length : Version → ℕ → List ℕ → Item ℕ
feature_length three at s = byte at s (plain_in at)
feature_length four at s = der_length at s
