-- Each item that keeps its rules leaves what may stand from the next item on; and so does the whole way to an item.
-- Assumes nothing.
use Rattle.std.specs.Prelude.{◌≡◌, refl, List, [], ◌∷◌, ◌++◌, map, ℕ, suc, ◌+◌, ◌≤◌, length, take, drop, get_or}
use Rattle.std.proofs.Common.{sym, ap, ◌∙◌, subst, append-nil, arith, length-drop, take-add, take-suc, length-take-le}
use Rattle.format.specs.Bytes.{Bytes}
use Rattle.format.specs.Bytes.Laws.{bytes_take, bytes_drop}
use Rattle.c40.specs.Text.{width, publish as c40}
use Rattle.c40.specs.Text.Laws.{length_publish}
use Rattle.dates.specs.Days.{Day, publish as date}
use Rattle.dates.proofs.Days.Laws.{cut_date, length_publish as length_date}
use Rattle.der.specs.Length.{Sized, form}
use Rattle.der.proofs.Lengths.Exact.{cut_form}
use Rattle.versions.specs.Versions.{version_byte}
use Rattle.grammar.specs.Content.{Version, three, four}
use Rattle.grammar.specs.Publish.{carried, length_of}
use Rattle.grammar.specs.Legal.{Country, LastByte, SignatureSize, ValueSize}
use Rattle.grammar.proofs.Parts.{cut_country, country_text}
use Rattle.rules.specs.Rules.{Here, Rule, Keeps}
use Rattle.rules.specs.Layout.{Item, At, start, on, Follows, to_mark, to_version, to_country, to_names, to_issued_3}
use Rattle.rules.specs.Layout.{to_signer, to_reference, to_issued_4, to_signed, to_definition, to_category, to_tag, to_length}
use Rattle.rules.specs.Layout.{to_value, to_next, to_signature_length, to_signature, to_end}
use Rattle.rules.specs.Reason.One.{Kept, here_one}
use Rattle.front.specs.Front.{Sealed}
use Rattle.front.specs.Items.{byte, Mark, AnyVersion, version_item, country_item}
use Rattle.front_message.specs.Message.Languages.{Raw, Sig, Msg, Value, Tagged}
use Rattle.front_message.specs.Message.Least.{signature_range}
use Rattle.front_header.specs.Header.Chain.{Then}
use Rattle.front_header.specs.Header.Languages.{Rest, Category, Definition, Signed, Issued, Texts, AfterMark, AfterVersion, AfterCountry}
use Rattle.front_header.specs.Header.Parts.{byte_cut, version_cut}
use Rattle.front_header.specs.Header.Seals.{seal_start, start_seal}
use Rattle.front_place.specs.Place.State.{Leaves, leaves_both, leaves_as, then_leaves, Fits, State, Known}
use Rattle.front_place.specs.Place.Names.{LeavesHere, names_here, some_reference, length_here, reference_here}
use Rattle.front_place.specs.Place.Message.{fits_leaves, mark_leaves, tag_leaves, value_leaves, length_leaves}
use Rattle.front_place.specs.Place.Message.{signature_leaves, raw_leaves}

-- the bytes of an item lead on from what may stand there to what may stand from the next item on
pub record Next (s : List ℕ) (p q : ℕ) (P Q : List ℕ → Type 0) : Type 0 where
  pub bytes : List ℕ
  pub front : take q s ≡ take p s ++ bytes
  pub leaves : Leaves P bytes Q

-- bytes that stand at a place
pub here_next :
    (s : List ℕ) (p q : ℕ) (P Q : List ℕ → Type 0) (x : List ℕ) → Here s p x → length x + p ≡ q → Leaves P x Q → Next s p q P Q
here_next s p q P Q x h e l =
    let n : q ≡ p + length x = omega arith in
    record {
      bytes = x;
      front = ap (λ (k : ℕ). take k s) n ∙ take-add p (length x) s ∙ ap (λ (y : List ℕ). take p s ++ y) h;
      leaves = l;
    }

-- one byte
byte_next : (s : List ℕ) (p : ℕ) (P Q : List ℕ → Type 0) → p + 1 ≤ length s → Leaves P (get_or s p 0 ∷ []) Q → Next s p (p + 1) P Q
byte_next s p P Q h l =
    let n : p + 1 ≡ suc p = omega arith in
    record { bytes = get_or s p 0 ∷ []; front = ap (λ (k : ℕ). take k s) n ∙ take-suc s p 0 (omega arith); leaves = l }

-- so many bytes, whatever they are
bytes_next :
    (s : List ℕ) (p n : ℕ) (P Q : List ℕ → Type 0) →
    p + n ≤ length s →
    (length (take n (drop p s)) ≡ n → Leaves P (take n (drop p s)) Q) →
    Next s p (p + n) P Q
bytes_next s p n P Q h l = record {
  bytes = take n (drop p s);
  front = take-add p n s;
  leaves = l (length-take-le n (drop p s) (omega (arith, length-drop p s)));
}

-- text that stands at a place
text_next : (s : List ℕ) (p k : ℕ) (P Q : List ℕ → Type 0) → LeavesHere s p k P Q → Next s p (p + width k) P Q
text_next s p k P Q c =
    here_next s p (p + width k) P Q (c40 c.0) c.2 (omega (arith, length_publish c.0, c.1.0)) c.3

-- the items of a header, one by one
module _ (s : List ℕ) (p : ℕ) where
  mark_next : Kept s Item.mark p → Next s p (p + 1) (State Item.mark p) AfterMark
  mark_next k =
      byte_next s p _ AfterMark k.0 (then_leaves Mark byte (λ _. AfterMark) (byte_cut Mark) (get_or s p 0) (sym k.1.0))

  -- a version
  version_next : (v : Version) → get_or s p 0 ≡ version_byte v → Kept s Item.version p → Next s p (p + 1) AfterMark (AfterVersion v)
  version_next v e k =
      byte_next s p _ (AfterVersion v) k.0
      (leaves_as (version_item v) (get_or s p 0 ∷ []) (ap (λ (x : ℕ). x ∷ []) (sym e))
      (then_leaves AnyVersion version_item AfterVersion version_cut v tt))

  -- a country
  country_next : (v : Version) → Kept s (Item.country v) p → Next s p (p + 2) (AfterVersion v) (AfterCountry v)
  country_next v k =
      let c = k.1.1.0 in
      let size = (country_text c.0 c.1).0 in
      here_next s p (p + 2) _ (AfterCountry v) (country_item c.0) c.2
      (omega (arith, length_publish (map carried c.0))) (then_leaves Country country_item (λ _. AfterCountry v) cut_country c.0 c.1)

  -- a date
  date_next : (Q : List ℕ → Type 0) → Keeps s p Rule.is_day → Next s p (p + 3) (Then Day date (λ _. Q)) Q
  date_next Q d =
      here_next s p (p + 3) _ Q (date d.0) d.2 (omega (arith, length_date d.0))
      (then_leaves Day date (λ _. Q) cut_date d.0 d.1)

  -- a byte of 1 to 254
  last_next : (Q : List ℕ → Type 0) → p + 1 ≤ length s → LastByte (get_or s p 0) → Next s p (p + 1) (Then LastByte byte (λ _. Q)) Q
  last_next Q h l = byte_next s p _ Q h (then_leaves LastByte byte (λ _. Q) (byte_cut LastByte) (get_or s p 0) l)

-- one language for another with the same strings
next_as :
    {s : List ℕ} {p q : ℕ} {P Q : List ℕ → Type 0} (R : List ℕ → Type 0) →
    ((t : List ℕ) → Q t → R t) →
    ((t : List ℕ) → R t → Q t) →
    Next s p q P Q →
    Next s p q P R
next_as R to from n = record {
  bytes = n.bytes;
  front = n.front;
  leaves = record { to = λ t x. to t (n.leaves.to t x); from = λ t x. n.leaves.from t (from t x) };
}

-- the same for a header's length, otherwise written
next_at :
    {s : List ℕ} {p q : ℕ} {P : List ℕ → Type 0} (Q : ℕ → List ℕ → Type 0) (m n : ℕ) → m ≡ n → Next s p q P (Q m) → Next s p q P (Q n)
next_at {s} {p} {q} {P} Q m n e x = subst (λ (k : ℕ). Next s p q P (Q k)) e x

-- a value's length that stands in bytes
length_size : (v : Version) (s : List ℕ) (p n : ℕ) → Bytes s → Here s p (length_of v n) → ValueSize v n
length_size three s p n bytes h =
    let e : get_or (take 1 (drop p s)) 0 0 ≡ n = ap (λ (x : List ℕ). get_or x 0 0) h in
    omega (arith, bytes_take 1 (drop p s) (bytes_drop p s bytes) 0)
length_size four s p n bytes h = tt

-- a signature's length, as its two rules say it
signature_size_lem : (s : List ℕ) (p n : ℕ) → Sized n → Here s p (form n) → Keeps s p Rule.signature_size → SignatureSize n
signature_size_lem s p n sized h c =
    let r = signature_range c.0 c.1 in
    subst SignatureSize (here_one Sized form cut_form s p c.0 n (omega arith) sized c.2 h) c.1

-- an item that keeps its rules leads on to the next
followed :
    (s : List ℕ) →
    Bytes s →
    {i j : Item} {p q : ℕ} →
    Known i p →
    Kept s i p →
    Follows s i p j q →
    Next s p q (State i p) (State j q)
followed s b h k (to_mark p) =
    record { bytes = []; front = sym (append-nil (take p s)); leaves = record { to = λ t x. x; from = λ t x. x } }
followed s b h k (to_version p) = mark_next s p k
followed s b h k (to_country p v e) = version_next s p v e k
followed s b h k (to_names p) = country_next s p three k
followed s b h k (to_issued_3 p) =
    next_at (Issued three) 18 (p + 6 + 8) (omega arith) (text_next s p 9 (AfterCountry three) (Issued three 18) (names_here s p k))
followed s b h k (to_signer p) = country_next s p four k
followed s b h k (to_reference p n c) =
    text_next s p 6 (AfterCountry four) (Texts n (Issued four (16 + width n))) (length_here s p n k c)
followed s b h k (to_issued_4 p n) =
    next_at (Issued four) (16 + width n) (p + width n + 8) (omega (arith, h.0))
    (text_next s p n _ (Issued four (16 + width n)) (reference_here s p n k (Issued four (16 + width n))))
followed s b h k (to_signed p v) =
    next_at (Signed v) (p + 8) (p + 3 + 5) (omega arith) (date_next s p (Signed v (p + 8)) k.1.0)
followed s b h k (to_definition p v) =
    next_at (Definition v) (p + 5) (p + 3 + 2) (omega arith) (date_next s p (Definition v (p + 5)) k.1.0)
followed s b h k (to_category p v) =
    next_at (Category v) (p + 2) (p + 1 + 1) (omega arith) (last_next s p (Category v (p + 2)) k.0 k.1.0)
followed s b h k (to_tag p v) =
    next_as (Fits (p + 1) (Msg v [])) (λ t x. (x.0, omega (arith, x.1))) (λ t x. (x.0, omega (arith, x.1)))
    (last_next s p (Rest v (p + 1)) k.0 k.1.0)
followed s b h k (to_length p v tags d) =
    byte_next s p (Fits p (Msg v tags)) (Fits (p + 1) (Tagged v (get_or s p 0 ∷ tags))) k.0
    (fits_leaves p (get_or s p 0 ∷ []) (tag_leaves v tags (get_or s p 0) d (b p) k.1.0))
followed s b h k (to_value p v tags n z e) =
    here_next s p (p + length (length_of v n)) (Fits p (Tagged v tags)) (Fits (p + length (length_of v n)) (Value v tags n)) (length_of v n)
    e (omega arith) (length_leaves v tags p n z (length_size v s p n b e))
followed s b h k (to_next p v tags n) =
    bytes_next s p n (Fits p (Value v tags n)) (Fits (p + n) (Msg v tags)) k.0
    (λ e. subst (λ (m : ℕ). Leaves (Fits p (Value v tags n)) (take n (drop p s)) (Fits (p + m) (Msg v tags))) e
    (fits_leaves p (take n (drop p s)) (value_leaves v tags n (take n (drop p s)) e (bytes_take n (drop p s) (bytes_drop p s b)))))
followed s b h k (to_signature_length p v tags e) =
    byte_next s p (Fits p (Msg v tags)) (Fits (p + 1) Sig) k.0
    (fits_leaves p (get_or s p 0 ∷ []) (mark_leaves v tags (get_or s p 0) e))
followed s b h k (to_signature p n z e) =
    here_next s p (p + length (form n)) (Fits p Sig) (Fits (p + length (form n)) (Raw n)) (form n) e (omega arith)
    (fits_leaves p (form n) (signature_leaves n (signature_size_lem s p n z e k.1.1.1.1.0)))
followed s b h k (to_end p n) =
    bytes_next s p n (Fits p (Raw n)) (Fits (p + n) (Raw 0)) k.0
    (λ e. subst (λ (m : ℕ). Leaves (Fits p (Raw n)) (take n (drop p s)) (Fits (p + m) (Raw 0))) e
    (fits_leaves p (take n (drop p s)) (raw_leaves n (take n (drop p s)) e (bytes_take n (drop p s) (bytes_drop p s b)))))

-- and what is settled of it goes on
known_next : (s : List ℕ) {i j : Item} {p q : ℕ} → Known i p → Kept s i p → Follows s i p j q → Known j q
known_next s h k (to_mark p) = h
known_next s h k (to_version p) = omega arith
known_next s h k (to_country p v e) = omega arith
known_next s h k (to_names p) = omega arith
known_next s h k (to_issued_3 p) = omega arith
known_next s h k (to_signer p) = omega arith
known_next s h k (to_reference p n c) = (omega arith, some_reference s p n k.1.1.1.1.0 c, c.3.0)
known_next s h k (to_issued_4 p n) = omega (arith, h.0, h.2)
known_next s h k (to_signed p v) = omega arith
known_next s h k (to_definition p v) = omega arith
known_next s h k (to_category p v) = omega arith
known_next s h k (to_tag p v) = tt
known_next s h k (to_length p v tags d) = (λ e. d (sym e), h)
known_next s h k (to_value p v tags n z e) = h
known_next s h k (to_next p v tags n) = h
known_next s h k (to_signature_length p v tags e) = tt
known_next s h k (to_signature p n z e) = tt
known_next s h k (to_end p n) = tt

-- on the way to an item
pub known_at : {s : List ℕ} {i : Item} {p : ℕ} → At s i p → Known i p
known_at start = refl
known_at {s} (on w k f) = known_next s (known_at w) k f

-- The bytes before an item, each of which keeps its rules, leave exactly what may stand from it on.
pub leaves_at : (s : List ℕ) → Bytes s → {i : Item} {p : ℕ} → At s i p → Leaves Sealed (take p s) (State i p)
leaves_at s b start = record { to = seal_start; from = start_seal }
leaves_at s b (on {i = i} {j} {p} {q} w k f) =
    let ih = leaves_at s b w in
    let n = followed s b (known_at w) k f in
    leaves_as (take p s ++ n.bytes) (take q s) (sym n.front) (leaves_both (take p s) n.bytes ih n.leaves)
