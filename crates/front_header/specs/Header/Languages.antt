-- What may stand behind each item of a header, as languages: from the end, features and signature, to the start.
-- Assumes nothing.
use Rattle.std.specs.Prelude.{List, [], ℕ, zero, suc, ◌+◌, ◌-◌}
use Rattle.c40.specs.Text.{width, publish as c40}
use Rattle.dates.specs.Days.{Day, publish as date}
use Rattle.grammar.specs.Content.{Version, three, four}
use Rattle.grammar.specs.Legal.{Country, LastByte}
use Rattle.front.proofs.Room.{Within}
use Rattle.front.specs.Items.{byte, Mark, AnyVersion, version_item, country_item, First, Characters, Counted, counted_item}
use Rattle.front_message.specs.Message.Languages.{Msg}
use Rattle.front_header.specs.Header.Chain.{Then}

-- behind a header of so many bytes, and behind the items before
module _ (v : Version) (header : ℕ) where
  abbrev pub Rest : List ℕ → Type 0
  Rest = Within (4096 - header) (Msg v [])

  -- the document category, and the rest
  abbrev pub Category : List ℕ → Type 0
  Category = Then LastByte byte (λ _. Rest)

  -- the definition reference before it
  abbrev pub Definition : List ℕ → Type 0
  Definition = Then LastByte byte (λ _. Category)

  -- the signature date before it
  abbrev pub Signed : List ℕ → Type 0
  Signed = Then Day date (λ _. Definition)

  -- the issue date before it
  abbrev pub Issued : List ℕ → Type 0
  Issued = Then Day date (λ _. Signed)

-- so many letters and digits, by threes, and then more
abbrev pub Texts : ℕ → (List ℕ → Type 0) → List ℕ → Type 0
Texts zero Q = Q
Texts (suc zero) Q = Then (Characters 1) c40 (λ _. Q)
Texts (suc (suc zero)) Q = Then (Characters 2) c40 (λ _. Q)
Texts (suc (suc (suc n))) Q = Then (Characters 3) c40 (λ _. Texts n Q)

-- the bytes of a header, by the length of its reference
abbrev pub header_length : Version → ℕ → ℕ
header_length three n = 18
header_length four n = 16 + width n

-- version 4: the reference of a length, and then more
abbrev pub Reference : ℕ × ℕ → List ℕ → Type 0
Reference x = Texts x.1 (Issued four (16 + width x.1))

-- signer and reference, behind the signer's first three characters
abbrev pub AfterFirst : Version → List ℕ → Type 0
AfterFirst three = Texts 6 (Issued three 18)
AfterFirst four = Then Counted counted_item Reference

-- the signer's first three characters before them
abbrev pub AfterCountry : Version → List ℕ → Type 0
AfterCountry v = Then First c40 (λ _. AfterFirst v)

-- the country before them
abbrev pub AfterVersion : Version → List ℕ → Type 0
AfterVersion v = Then Country country_item (λ _. AfterCountry v)

-- the version before it
abbrev pub AfterMark : List ℕ → Type 0
AfterMark = Then AnyVersion version_item AfterVersion

-- a whole seal, from its mark on
abbrev pub Start : List ℕ → Type 0
Start = Then Mark byte (λ _. AfterMark)
