-- What document 01 asks of a seal's bytes, rule by rule: what it is to keep a rule, for an item whose first byte stands at a place; and for
-- a rule that is broken its number, the place that is told and the bytes judged. Nothing here knows of the reader.
-- Assumes nothing.
use Rattle.std.specs.Prelude.{◌≡◌, ◌⊎◌, ℕ, ◌+◌, ◌-◌, ◌≤◌, ◌<◌, List, [], ◌∷◌, map, length, take, drop, get_or}
use Rattle.format.specs.Bytes.{All}
use Rattle.c40.specs.Text.{TextOf, width, publish as c40}
use Rattle.c40.proofs.Wrong.{FirstWrong}
use Rattle.dates.specs.declared.Date.{Date}
use Rattle.dates.specs.Days.{Day, publish as date}
use Rattle.der.specs.Length.{Sized, form}
use Rattle.versions.specs.Versions.{version_byte}
use Rattle.grammar.specs.Content.{Version}
use Rattle.grammar.specs.Publish.{carried, hex_digits}
use Rattle.grammar.specs.Legal.{Country, Signer, ReferenceCharacter, LastByte, Unused, SignatureSize}
use Rattle.causes.specs.Causes.{rule_number}
use Rattle.causes.specs.declared.Rule.{Rule as Name}
use Rattle.causes.specs.declared.Rule.TheVariants as name

-- these bytes stand at a place
abbrev pub Here : List ℕ → ℕ → List ℕ → Type 0
Here s at bytes = take (length bytes) (drop at s) ≡ bytes

-- text of k characters stands there in C40, and this holds of it
abbrev pub Carries : List ℕ → ℕ → ℕ → (List ℕ → Type 0) → Type 0
Carries s at k P = (t : List ℕ) × TextOf k t × Here s at (c40 t) × P t

-- after four characters come the two upper-case hexadecimal digits of n
abbrev pub Digits : ℕ → List ℕ → Type 0
Digits n t = (n ≤ 255) × (drop 4 t ≡ hex_digits n)

-- how many bytes a DER length has: its first, and those that this one announces
abbrev pub der_size : List ℕ → ℕ → ℕ
der_size s at = 1 + (get_or s at 0 - 0x80)

-- A rule, with what the items before have settled for it: how many bytes or characters, which tags are used.
pub data Rule : Type 0 where
  not_too_long : Rule
  there : ℕ → Rule
  is_mark : Rule
  is_version : Rule
  well_coded : ℕ → Rule
  country_code : Rule
  signer_characters : ℕ → Rule
  reference_characters : ℕ → ℕ → Rule
  hexadecimal_digits : Rule
  not_zero : Rule
  is_day : Rule
  one_to254 : Rule
  not_used_before : List ℕ → Rule
  begins_length : Rule
  rest_there : Rule
  shortest : Rule
  signature_size : Rule
  nothing_after : Rule

abbrev pub Keeps : List ℕ → ℕ → Rule → Type 0
-- the seal has at most 4,096 bytes
Keeps s at Rule.not_too_long = length s ≤ 4096
-- k bytes are there
Keeps s at (Rule.there k) = at + k ≤ length s
-- the byte is DC
Keeps s at Rule.is_mark = get_or s at 0 ≡ 0xDC
-- the byte is a version's: 02 or 03
Keeps s at Rule.is_version = (v : Version) × (get_or s at 0 ≡ version_byte v)
-- text of k characters, well coded
Keeps s at (Rule.well_coded k) = Carries s at k (λ t. Unit)
-- a country: a letter first, letters and then fillers
Keeps s at Rule.country_code = (t : List ℕ) × Country t × Here s at (c40 (map carried t))
-- of k characters the first four are a signer's
Keeps s at (Rule.signer_characters k) = Carries s at k (λ t. Signer (take 4 t))
-- of k characters those from this one on are a reference's
Keeps s at (Rule.reference_characters k from) = Carries s at k (λ t. All ReferenceCharacter (drop from t))
-- of six characters the last two are upper-case hexadecimal digits; and they are not 00
Keeps s at Rule.hexadecimal_digits = Carries s at 6 (λ t. (n : ℕ) × Digits n t)
Keeps s at Rule.not_zero = Carries s at 6 (Digits 0) → ⊥
-- a real day
Keeps s at Rule.is_day = (d : Date) × Day d × Here s at (date d)
-- the byte is 1 to 254
Keeps s at Rule.one_to254 = LastByte (get_or s at 0)
-- the byte is none of these tags
Keeps s at (Rule.not_used_before tags) = Unused (get_or s at 0) tags
-- a DER length: its first byte is no 80 and not 85 to FF; the bytes that this announces are there; it is the shortest form of a length
Keeps s at Rule.begins_length = (get_or s at 0 < 0x80) ⊎ ((0x80 < get_or s at 0) × (get_or s at 0 < 0x85))
Keeps s at Rule.rest_there = at + der_size s at ≤ length s
Keeps s at Rule.shortest = (n : ℕ) × Sized n × Here s at (form n)
-- the length is 56, 64, 96, 128 or 132
Keeps s at Rule.signature_size = (n : ℕ) × SignatureSize n × Here s at (form n)
-- no byte stands there
Keeps s at Rule.nothing_after = length s ≤ at

-- the name of a rule, by which its number and its code are known
abbrev pub called : Rule → Name
called Rule.not_too_long = name.NotTooLong
called (Rule.there k) = name.There
called Rule.is_mark = name.IsMark
called Rule.is_version = name.IsVersion
called (Rule.well_coded k) = name.WellCoded
called Rule.country_code = name.CountryCode
called (Rule.signer_characters k) = name.SignerCharacters
called (Rule.reference_characters k from) = name.ReferenceCharacters
called Rule.hexadecimal_digits = name.HexadecimalDigits
called Rule.not_zero = name.NotZero
called Rule.is_day = name.IsDay
called Rule.one_to254 = name.OneTo254
called (Rule.not_used_before tags) = name.NotUsedBefore
called Rule.begins_length = name.BeginsLength
called Rule.rest_there = name.RestThere
called Rule.shortest = name.Shortest
called Rule.signature_size = name.SignatureSize
called Rule.nothing_after = name.NothingAfter

-- the number of each rule (document 01, "The numbers a call answers")
abbrev pub number_of : Rule → ℕ
number_of r = rule_number (called r)

-- The place that is told where a rule is broken: for a seal that is too long 4,096, for text that is wrongly coded the first byte of the
-- first pair that is (document 02, Ticket 1), else the item's first byte; of the end that is the first byte too many.
abbrev pub Placed : List ℕ → ℕ → Rule → ℕ → Type 0
Placed s at Rule.not_too_long p = p ≡ 4096
Placed s at (Rule.there k) p = p ≡ at
Placed s at Rule.is_mark p = p ≡ at
Placed s at Rule.is_version p = p ≡ at
Placed s at (Rule.well_coded k) p = (i : ℕ) × (p ≡ at + i) × FirstWrong k (take (width k) (drop at s)) i
Placed s at Rule.country_code p = p ≡ at
Placed s at (Rule.signer_characters k) p = p ≡ at
Placed s at (Rule.reference_characters k from) p = p ≡ at
Placed s at Rule.hexadecimal_digits p = p ≡ at
Placed s at Rule.not_zero p = p ≡ at
Placed s at Rule.is_day p = p ≡ at
Placed s at Rule.one_to254 p = p ≡ at
Placed s at (Rule.not_used_before tags) p = p ≡ at
Placed s at Rule.begins_length p = p ≡ at
Placed s at Rule.rest_there p = p ≡ at
Placed s at Rule.shortest p = p ≡ at
Placed s at Rule.signature_size p = p ≡ at
Placed s at Rule.nothing_after p = p ≡ at

-- How many bytes a rule is about, from the place told on: where bytes are missing the whole item; of text that is wrongly coded the pair;
-- of a wrong character, a date or a byte the whole item; of a length its first byte, or all its bytes where the whole length is judged; of
-- what is too long, and of what follows the signature, the first byte that is too many.
abbrev pub size_of : List ℕ → ℕ → Rule → ℕ
size_of s at Rule.not_too_long = 1
size_of s at (Rule.there k) = k
size_of s at Rule.is_mark = 1
size_of s at Rule.is_version = 1
size_of s at (Rule.well_coded k) = 2
size_of s at Rule.country_code = width 3
size_of s at (Rule.signer_characters k) = width k
size_of s at (Rule.reference_characters k from) = width k
size_of s at Rule.hexadecimal_digits = width 6
size_of s at Rule.not_zero = width 6
size_of s at Rule.is_day = 3
size_of s at Rule.one_to254 = 1
size_of s at (Rule.not_used_before tags) = 1
size_of s at Rule.begins_length = 1
size_of s at Rule.rest_there = der_size s at
size_of s at Rule.shortest = der_size s at
size_of s at Rule.signature_size = der_size s at
size_of s at Rule.nothing_after = 1
