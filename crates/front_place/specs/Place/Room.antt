-- Where an item stands with room enough for a shortest rest, a seal goes on from there; without that room, none does.
-- Assumes nothing.
use Rattle.std.proofs.Math.Path.{refl}
use Rattle.std.proofs.Common.{inl, arith}
use Rattle.std.specs.Prelude.{List, [], ◌∷◌, ◌++◌, ℕ, zero, suc, ◌+◌, ◌≤◌, ◌<◌, get_or, replicate}
use Rattle.std.proofs.lemmas.List.{length-replicate}
use Rattle.format.specs.Bytes.{All}
use Rattle.c40.specs.Text.{width, publish as c40}
use Rattle.dates.specs.Days.{is_day, first_day, publish as date}
use Rattle.grammar.specs.Content.{Version, three, four}
use Rattle.grammar.specs.Legal.{Letter, LetterOrDigit, Filler, Country}
use Rattle.rules.specs.Layout.{Item}
use Rattle.front.specs.Items.{byte, version_item, country_item, First, Counted, counted_item}
use Rattle.front_message.specs.Message.Least.{zeros, zeros_length, zeros_raw, sig_cheapest, msg_cheapest, value_cheapest, tagged_cheapest}
use Rattle.front_header.specs.Header.Chain.{put}
use Rattle.front_header.specs.Header.Languages.{Rest, Category, Definition, Signed, Issued, Texts}
use Rattle.front_header.specs.Header.Languages.{AfterFirst, AfterCountry, AfterVersion, AfterMark, Start}
use Rattle.front_header.specs.Header.Names.{texts_to}
use Rattle.front_place.specs.Place.{least}
use Rattle.front_place.specs.Place.State.{State, Known}

-- some string of a language
abbrev Some : (List ℕ → Type 0) → Type 0
Some L = (t : List ℕ) × L t

-- a header from its end back to its dates
module _ (v : Version) (header : ℕ) (small : header ≤ 186) where
  some_rest : Some (Rest v header)
  some_rest = let c = msg_cheapest v [] in (c.one, (c.is, omega (arith, c.size)))

  -- the category
  some_category : Some (Category v header)
  some_category = let r = some_rest in (byte 1 ++ r.0, put byte 1 (omega arith, omega arith) r.0 r.1)

  -- the definition reference
  some_definition : Some (Definition v header)
  some_definition = let r = some_category in (byte 1 ++ r.0, put byte 1 (omega arith, omega arith) r.0 r.1)

  -- the signature date
  some_signed : Some (Signed v header)
  unfolding is_day
  some_signed = let r = some_definition in (date first_day ++ r.0, put date first_day refl r.0 r.1)

  -- the issue date
  some_issued : Some (Issued v header)
  unfolding is_day
  some_issued = let r = some_signed in (date first_day ++ r.0, put date first_day refl r.0 r.1)

-- A, a letter
letter : Letter 65
letter = (omega arith, omega arith)

-- as often as one likes
letters : (n : ℕ) → All LetterOrDigit (replicate n 65)
letters zero = tt
letters (suc n) = (inl letter, letters n)

-- a text of so many characters, and more
some_texts : (n : ℕ) (Q : List ℕ → Type 0) → Some Q → Some (Texts n Q)
some_texts n Q r =
    let a : List ℕ = replicate n 65 in
    (c40 a ++ r.0, texts_to Q n (c40 a ++ r.0) (put c40 a (length-replicate n 65, letters n) r.0 r.1))

-- a reference
some_reference : (n : ℕ) → n ≤ 255 → Some (Texts n (Issued four (16 + width n)))
some_reference n h = some_texts n (Issued four (16 + width n)) (some_issued four (16 + width n) (omega arith))

-- behind the signer's first three characters
some_first : (v : Version) → Some (AfterFirst v)
some_first three = some_texts 6 (Issued three 18) (some_issued three 18 (omega arith))
some_first four =
    let r = some_reference 1 (omega arith) in
    let counted : Counted (65, 1) = (inl letter, omega arith, omega arith) in
    (counted_item (65, 1) ++ r.0, put counted_item (65, 1) counted r.0 r.1)

-- the signer's first three characters
some_names : (v : Version) → Some (AfterCountry v)
some_names v =
    let r = some_first v in
    let a : First (65 ∷ 65 ∷ 65 ∷ []) = record { size = refl; first = letter; second = letter; third = inl letter } in
    (c40 (65 ∷ 65 ∷ 65 ∷ []) ++ r.0, put c40 (65 ∷ 65 ∷ 65 ∷ []) a r.0 r.1)

-- none of three letters is a filler
no_filler : (i : ℕ) → i < 2 → Filler (get_or {A = ℕ} (65 ∷ 65 ∷ 65 ∷ []) i 0) → ⊥
no_filler zero h e = omega arith
no_filler (suc zero) h e = omega arith
no_filler (suc (suc i)) h e = omega arith

-- the country AAA
some_country : (v : Version) → Some (AfterVersion v)
some_country v =
    let r = some_names v in
    let a : List ℕ = 65 ∷ 65 ∷ 65 ∷ [] in
    let legal : Country a = record {
      size = refl;
      letters = (inl letter, (inl letter, (inl letter, tt)));
      first = letter;
      filled = λ i h e. absurd (no_filler i h e);
    } in
    (country_item a ++ r.0, put country_item a legal r.0 r.1)

-- the version
some_version : Some AfterMark
some_version = let r = some_country three in (version_item three ++ r.0, put version_item three tt r.0 r.1)

-- the mark
some_seal : Some Start
some_seal = let r = some_version in (byte 0xDC ++ r.0, put byte 0xDC refl r.0 r.1)

-- with room for the least, something may stand from an item on
pub some_state : (i : Item) (p : ℕ) → Known i p → p + least i ≤ 4096 → Some (State i p)
some_state Item.seal p h r = some_seal
some_state Item.mark p h r = some_seal
some_state Item.version p h r = some_version
some_state (Item.country v) p h r = some_country v
some_state Item.names p h r = some_names three
some_state Item.signer_and_length p h r = some_names four
some_state (Item.reference n) p h r = some_reference n h.2
some_state (Item.issued v) p h r = some_issued v (p + 8) (omega arith)
some_state (Item.signed v) p h r = some_signed v (p + 5) (omega arith)
some_state (Item.definition v) p h r = some_definition v (p + 2) (omega arith)
some_state (Item.category v) p h r = some_category v (p + 1) (omega arith)
some_state (Item.tag v tags) p h r = let c = msg_cheapest v tags in (c.one, (c.is, omega (arith, c.size)))
some_state (Item.value_length v tags) p h r = let c = tagged_cheapest v tags in (c.one, (c.is, omega (arith, c.size)))
some_state (Item.value v tags n) p h r = let c = value_cheapest v tags n in (c.one, (c.is, omega (arith, c.size)))
some_state Item.signature_length p h r = let c = sig_cheapest in (c.one, (c.is, omega (arith, c.size)))
some_state (Item.signature n) p h r = (zeros n, (zeros_raw n, omega (arith, zeros_length n)))
some_state Item.end p h r = (zeros 0, (zeros_raw 0, omega (arith, zeros_length 0)))

-- and where something may, there is room for the least
pub state_room : (i : Item) (p : ℕ) → Known i p → (t : List ℕ) → State i p t → p + least i ≤ 4096
state_room Item.seal p h t x = omega arith
state_room Item.mark p h t x = omega arith
state_room Item.version p h t x = omega arith
state_room (Item.country v) p h t x = omega arith
state_room Item.names p h t x = omega arith
state_room Item.signer_and_length p h t x = omega arith
state_room (Item.reference n) p h t x = omega (arith, h.0)
state_room (Item.issued v) p h t x = omega arith
state_room (Item.signed v) p h t x = omega arith
state_room (Item.definition v) p h t x = omega arith
state_room (Item.category v) p h t x = omega arith
state_room (Item.tag v tags) p h t x = omega (arith, (msg_cheapest v tags).all t x.0, x.1)
state_room (Item.value_length v tags) p h t x = omega (arith, (tagged_cheapest v tags).all t x.0, x.1)
state_room (Item.value v tags n) p h t x = omega (arith, (value_cheapest v tags n).all t x.0, x.1)
state_room Item.signature_length p h t x = omega (arith, sig_cheapest.all t x.0, x.1)
state_room (Item.signature n) p h t x = omega (arith, x.0.0, x.1)
state_room Item.end p h t x = omega (arith, x.1)
