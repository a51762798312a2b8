-- The computing definition `front` is the longest front part with which an accepted seal begins: by the pairs and
-- dates of a header, and by features and signature.
-- Assumes nothing.
use Rattle.std.specs.Prelude.{◌≡◌, eqb, length, get_or, drop}
use Rattle.std.proofs.Math.Path.{refl, ap}
use Rattle.std.proofs.Common.{sym, ◌∙◌, subst, arith}
use mathlib.Core.List.{List, [], ◌∷◌, ◌++◌}
use Rattle.std.proofs.Math.Option.{Option, none, some, none-ne-some}
use Prim.Native.Nat.{ℕ, zero, suc, ◌+◌, ◌-◌, ◌≤◌}
use Rattle.std.proofs.Math.ListN.{take}
use Rattle.format.specs.Bytes.{Bytes}
use Rattle.format.specs.Bytes.Laws.{bytes_nil}
use Rattle.c40.specs.Text.{width, publish as c40}
use Rattle.dates.specs.Days.{Day, publish as date}
use Rattle.dates.proofs.Days.Laws.{cut_date}
use Rattle.versions.specs.Versions.{version_byte, version_of_byte}
use Rattle.versions.proofs.Versions.Laws.{byte_back_lem, byte_of}
use Rattle.grammar.specs.Content.{Version, three, four}
use Rattle.grammar.specs.Legal.{Country, LastByte}
use Rattle.grammar.proofs.Parts.{cut_country}
use Rattle.front.specs.Front.{Sealed, Begins, Longest}
use Rattle.front.proofs.Front.Laws.{longest_same, longest_some, longest_end, longest_stop, longest_after}
use Rattle.front.proofs.Room.{Within}
use Rattle.front.specs.Items.{byte, Mark, version_item, country_item, First, Characters, Counted, counted_item}
use Rattle.front_pairs.specs.Pairs.{pair_front, length_in}
use Rattle.front_pairs.specs.declared.Kind.TheVariants as kind
use Rattle.front_days.specs.Days.{day_front}
use Rattle.front_message.specs.Message.{message_front}
use Rattle.front_message.specs.Message.Languages.{Msg}
use Rattle.front_header.specs.Header.{byte_front, past, rest_front, last_front, dates_front, text_front, reference_front}
use Rattle.front_header.specs.Header.{length_front, names_front, country_front, versioned_front, version_front, front}
use Rattle.front_header.specs.Header.Chain.{put, then_is, past_is}
use Rattle.front_header.specs.Header.Parts.{byte_cut, version_cut, first_cut, characters_cut, counted_cut}
use Rattle.front_header.specs.Header.Parts.{Readers, length_back, mark_reader, last_reader}
use Rattle.front_header.specs.Header.Languages.{Rest, Category, Definition, Signed, Issued, Texts, Reference}
use Rattle.front_header.specs.Header.Languages.{AfterFirst, AfterCountry, AfterVersion, AfterMark, Start}
use Rattle.front_header.specs.Header.Seals.{seal_start, start_seal}

-- what is asked of features and signature
abbrev pub Message : Type 0
Message =
    (v : Version) (used : List ℕ) (room : ℕ) (s : List ℕ) →
    Bytes s →
    58 ≤ room →
    room ≤ 4096 →
    Longest (Within room (Msg v used)) s (message_front v (suc (length s)) used room s)

module _ (r : Readers) (m : Message) where
  -- from the end of a header of so many bytes back to its dates
  module _ (v : Version) (header : ℕ) (small : header ≤ 186) where
    rest_is : (s : List ℕ) → Bytes s → Longest (Rest v header) s (rest_front v header s)
    unfolding rest_front
    rest_is s b = m v [] (4096 - header) s b (omega arith) (omega arith)

    -- the category before it
    category_is : (s : List ℕ) → Bytes s → Longest (Category v header) s (past last_front 1 (rest_front v header) s)
    category_is = past_is LastByte byte 1 last_front last_reader (byte_cut LastByte) (Rest v header) (rest_front v header) rest_is

    -- the definition reference before it
    definition_is :
        (s : List ℕ) → Bytes s → Longest (Definition v header) s (past last_front 1 (past last_front 1 (rest_front v header)) s)
    definition_is = past_is LastByte byte 1 last_front last_reader (byte_cut LastByte) (Category v header) _ category_is

    -- the signature date before it
    signed_is :
        (s : List ℕ) →
        Bytes s →
        Longest (Signed v header) s (past day_front 3 (past last_front 1 (past last_front 1 (rest_front v header))) s)
    signed_is = past_is Day date 3 day_front r.day cut_date (Definition v header) _ definition_is

    -- the issue date before it
    dates_are : (s : List ℕ) → Bytes s → Longest (Issued v header) s (dates_front v header s)
    unfolding dates_front
    dates_are = past_is Day date 3 day_front r.day cut_date (Signed v header) _ signed_is

  -- letters and digits, by threes
  texts_are :
      (n : ℕ) (Q : List ℕ → Type 0) (more : List ℕ → ℕ) →
      ((s : List ℕ) → Bytes s → Longest Q s (more s)) →
      (s : List ℕ) →
      Bytes s →
      Longest (Texts n Q) s (text_front n more s)
  unfolding text_front
  texts_are zero Q more more_is = more_is
  texts_are (suc zero) Q more more_is = past_is (Characters 1) c40 2 (pair_front kind.One) r.one (characters_cut 1) Q more more_is
  texts_are (suc (suc zero)) Q more more_is = past_is (Characters 2) c40 2 (pair_front kind.Two) r.two (characters_cut 2) Q more more_is
  texts_are (suc (suc (suc n))) Q more more_is =
      let ih = texts_are n Q more more_is in
      past_is (Characters 3) c40 2 (pair_front kind.Triple) r.triple (characters_cut 3) (Texts n Q) (text_front n more) ih

  -- version 4: the reference, behind its length
  reference_is : (x : ℕ × ℕ) → Counted x → (s : List ℕ) → Bytes s → Longest (Reference x) s (reference_front x.1 s)
  unfolding reference_front
  reference_is x l =
      let small : 16 + width x.1 ≤ 186 = omega (arith, l.2) in
      texts_are x.1 (Issued four (16 + width x.1)) (dates_front four (16 + width x.1)) (dates_are four (16 + width x.1) small)

  -- two bytes at the front, by place
  first_two : (s t : List ℕ) → length t ≡ 2 → t ≡ take 2 s → (get_or t 0 0 ≡ get_or s 0 0) × (get_or t 1 0 ≡ get_or s 1 0)
  first_two (a ∷ b ∷ s) t l e = (ap (λ (x : List ℕ). get_or x 0 0) e, ap (λ (x : List ℕ). get_or x 1 0) e)
  first_two [] t l e = absurd (omega (arith, ap length e))
  first_two (a ∷ []) t l e = absurd (omega (arith, ap length e))

  -- version 4: the length, and behind it the reference that it tells
  length_is : (s : List ℕ) → Bytes s → Longest (AfterFirst four) s (length_front s)
  unfolding length_front
  length_is s b =
      then_is Counted counted_item 2 (pair_front kind.Length) r.length counted_cut Reference (λ x. reference_front x.1) reference_is
      s b (reference_front (length_in (get_or s 0 0) (get_or s 1 0)) (drop 2 s)) told
    where
      told :
          (x : ℕ × ℕ) →
          Counted x →
          counted_item x ≡ take 2 s →
          reference_front x.1 (drop 2 s) ≡ reference_front (length_in (get_or s 0 0) (get_or s 1 0)) (drop 2 s)
      told x l e =
          let two = first_two s (counted_item x) (r.length.size x l) e in
          ap (λ (n : ℕ). reference_front n (drop 2 s)) (sym (length_back x l) ∙ (λ i. length_in (two.0 i) (two.1 i)))

  -- signer and reference of either version, behind the signer's first three characters
  names_are : (v : Version) (s : List ℕ) → Bytes s → Longest (AfterFirst v) s (names_front v s)
  unfolding names_front
  names_are three = texts_are 6 (Issued three 18) (dates_front three 18) (dates_are three 18 (omega arith))
  names_are four = length_is

  -- those three before them
  signer_is : (v : Version) (s : List ℕ) → Bytes s → Longest (AfterCountry v) s (past (pair_front kind.Signer) 2 (names_front v) s)
  signer_is v = past_is First c40 2 (pair_front kind.Signer) r.signer first_cut (AfterFirst v) (names_front v) (names_are v)

  -- the country before them
  country_is : (v : Version) (s : List ℕ) → Bytes s → Longest (AfterVersion v) s (country_front v s)
  unfolding country_front
  country_is v =
      past_is Country country_item 2 (pair_front kind.Country) r.country cut_country
      (AfterCountry v) (past (pair_front kind.Signer) 2 (names_front v)) (signer_is v)

  -- the version's byte
  some_version : Begins AfterMark []
  some_version =
      let c = longest_some (AfterVersion three) [] (country_front three []) (country_is three [] bytes_nil) in
      (version_item three ++ c.0, put version_item three tt c.0 c.1)

  -- a first byte that is a version's, or none
  versioned_is :
      (b : ℕ) (s : List ℕ) →
      Bytes s →
      (o : Option Version) →
      version_of_byte b ≡ o →
      Longest AfterMark (b ∷ s) (versioned_front o s)
  versioned_is b s h none e = longest_stop AfterMark b s some_version never
    where
      never : Begins AfterMark (b ∷ []) → ⊥
      never w =
          let v = w.1.a in
          let same : version_byte v ≡ b = ap (λ (x : List ℕ). get_or x 0 0) w.1.is in
          none-ne-some v (sym e ∙ ap version_of_byte (sym same) ∙ byte_back_lem v)
  versioned_is b s h (some v) e =
      subst (λ (x : ℕ). Longest AfterMark (x ∷ s) (1 + country_front v s)) (sym (byte_of b v e))
      (longest_after AfterMark (version_item v) (AfterVersion v)
      (λ t y.
      let c = version_cut y.a v y.rest t tt tt y.is in
      subst (AfterVersion v) c.1 (subst (λ (z : Version). AfterVersion z y.rest) c.0 y.more))
      (λ t q. put version_item v tt t q)
      s (country_front v s) (country_is v s h))

  -- from the version on
  version_is : (s : List ℕ) → Bytes s → Longest AfterMark s (version_front s)
  unfolding version_front
  version_is [] h = longest_end AfterMark some_version
  version_is (b ∷ s) h = versioned_is b s (λ i. h (suc i)) (version_of_byte b) refl

  -- from the mark on
  start_is : (s : List ℕ) → Bytes s → Longest Start s (front s)
  unfolding front
  start_is = past_is Mark byte 1 (byte_front (eqb 0xDC)) mark_reader (byte_cut Mark) AfterMark version_front version_is

  -- the length of the longest front part of s with which some accepted seal begins
  pub front_is_by : (s : List ℕ) → Bytes s → Longest Sealed s (front s)
  front_is_by s b = longest_same Sealed Start seal_start start_seal s (front s) (start_is s b)
