-- Signer and reference as a whole, and as their pairs one after another: each implies the other.
-- Assumes nothing.
use Rattle.std.specs.Prelude.{◌≡◌, refl, List, [], ◌∷◌, ◌++◌, ℕ, zero, suc, ◌+◌, length, get_or}
use Rattle.std.proofs.Common.{sym, ap, ap₂, ◌∙◌, subst, append_assoc, arith, length-append}
use Rattle.format.specs.Bytes.{All}
use Rattle.format.specs.Bytes.Laws.{all_append}
use Rattle.c40.specs.Text.{width, publish as c40}
use Rattle.c40.specs.Text.Laws.{publish_none}
use Rattle.c40.proofs.Exact.{three_ahead}
use Rattle.grammar.specs.Content.{Version, three, four}
use Rattle.grammar.specs.Publish.{hex_digits, names}
use Rattle.grammar.specs.Legal.{LetterOrDigit, Signer}
use Rattle.grammar.proofs.Parts.{Names}
use Rattle.front.specs.Items.{First, Characters, counted_item}
use Rattle.front_header.specs.Header.Chain.{Then}
use Rattle.front_header.specs.Header.Languages.{Issued, Texts, header_length, AfterCountry}
use Rattle.front_header.specs.Header.Parts.{three_listed}

-- the form of three characters ahead of others
ahead : (x y rest : List ℕ) → length x ≡ 3 → c40 (x ++ y) ++ rest ≡ c40 x ++ (c40 y ++ rest)
ahead x y rest l = ap (λ (z : List ℕ). z ++ rest) (three_ahead x y l) ∙ append_assoc (c40 x) (c40 y) rest

-- so many characters and then more, as one text
abbrev pub Text : ℕ → (List ℕ → Type 0) → List ℕ → Type 0
Text n Q = Then (Characters n) c40 (λ _. Q)

module _ (Q : List ℕ → Type 0) where
  -- a text, three characters at a time
  text_texts : (x : List ℕ) → All LetterOrDigit x → (rest : List ℕ) → Q rest → Texts (length x) Q (c40 x ++ rest)
  text_texts [] a rest q = subst Q (sym (ap (λ (z : List ℕ). z ++ rest) publish_none)) q
  text_texts (c ∷ []) a rest q = record { a = c ∷ []; legal = (refl, a); rest = rest; more = q; is = refl }
  text_texts (c ∷ d ∷ []) a rest q = record { a = c ∷ d ∷ []; legal = (refl, a); rest = rest; more = q; is = refl }
  text_texts (c ∷ d ∷ e ∷ x) a rest q =
      let ih = text_texts x a.1.1.1 rest q in
      record {
        a = c ∷ d ∷ e ∷ [];
        legal = (refl, (a.0, (a.1.0, (a.1.1.0, tt))));
        rest = c40 x ++ rest;
        more = ih;
        is = sym (ahead (c ∷ d ∷ e ∷ []) x rest refl);
      }

  -- from one text to its pairs
  pub texts_to : (n : ℕ) (t : List ℕ) → Text n Q t → Texts n Q t
  texts_to n t x =
      subst (Texts n Q) x.is
      (subst (λ (k : ℕ). Texts k Q (c40 x.a ++ x.rest)) x.legal.0 (text_texts x.a x.legal.1 x.rest x.more))

  -- and back
  pub texts_from : (n : ℕ) (t : List ℕ) → Texts n Q t → Text n Q t
  texts_from zero t q =
      record { a = []; legal = (refl, tt); rest = t; more = q; is = ap (λ (z : List ℕ). z ++ t) publish_none }
  texts_from (suc zero) t m = m
  texts_from (suc (suc zero)) t m = m
  texts_from (suc (suc (suc n))) t m =
      let r = texts_from n m.rest m.more in
      let size = length-append m.a r.a in
      record {
        a = m.a ++ r.a;
        legal = (omega (arith, m.legal.0, r.legal.0), all_append LetterOrDigit m.a r.a m.legal.1 r.legal.1);
        rest = r.rest;
        more = r.more;
        is = ahead m.a r.a r.rest m.legal.0 ∙ ap (λ (z : List ℕ). c40 m.a ++ z) r.is ∙ m.is;
      }

-- signer and reference as a whole
pub record Named (v : Version) (t : List ℕ) : Type 0 where
  pub signer : List ℕ
  pub reference : List ℕ
  pub legal : Names v (signer, reference)
  pub rest : List ℕ
  pub more : Issued v (header_length v (length reference)) rest
  pub is : names v signer reference ++ rest ≡ t

-- four characters, by place
four_listed : (t : List ℕ) → length t ≡ 4 → t ≡ get_or t 0 0 ∷ get_or t 1 0 ∷ get_or t 2 0 ∷ get_or t 3 0 ∷ []
four_listed (a ∷ b ∷ c ∷ d ∷ []) l = refl
four_listed [] l = absurd (omega arith)
four_listed (a ∷ []) l = absurd (omega arith)
four_listed (a ∷ b ∷ []) l = absurd (omega arith)
four_listed (a ∷ b ∷ c ∷ []) l = absurd (omega arith)
four_listed (a ∷ b ∷ c ∷ d ∷ e ∷ x) l = absurd (omega arith)

-- the form of four characters and a reference: a pair and six characters; in version 4 two pairs and the reference
module _ (a b c d : ℕ) (r rest : List ℕ) where
  three_form : names three (a ∷ b ∷ c ∷ d ∷ []) r ++ rest ≡ c40 (a ∷ b ∷ c ∷ []) ++ (c40 (d ∷ r) ++ rest)
  three_form = ahead (a ∷ b ∷ c ∷ []) (d ∷ r) rest refl

  four_form : names four (a ∷ b ∷ c ∷ d ∷ []) r ++ rest ≡ c40 (a ∷ b ∷ c ∷ []) ++ (counted_item (d, length r) ++ (c40 r ++ rest))
  four_form =
      ahead (a ∷ b ∷ c ∷ []) (d ∷ hex_digits (length r) ++ r) rest refl
      ∙ ap (λ (z : List ℕ). c40 (a ∷ b ∷ c ∷ []) ++ z) (ahead (d ∷ hex_digits (length r)) r rest refl)

-- the first three characters of a signer
lead : List ℕ → List ℕ
lead s = get_or s 0 0 ∷ get_or s 1 0 ∷ get_or s 2 0 ∷ []

-- they are legal
lead_first : (s : List ℕ) → Signer s → First (lead s)
unfolding lead
lead_first s l = record { size = refl; first = l.first; second = l.second; third = l.third }

-- version 3: from a whole to its pairs
name_three : (t : List ℕ) → Named three t → AfterCountry three t
unfolding lead
name_three t n =
    let s = n.signer in
    let r = n.reference in
    let l = n.legal.signer in
    let d = get_or s 3 0 in
    let six : Characters 6 (d ∷ r) = (ap suc n.legal.size, (l.fourth, n.legal.reference)) in
    record {
      a = lead s;
      legal = lead_first s l;
      rest = c40 (d ∷ r) ++ n.rest;
      more =
          texts_to (Issued three 18) 6 (c40 (d ∷ r) ++ n.rest)
          (record { a = d ∷ r; legal = six; rest = n.rest; more = n.more; is = refl });
      is =
          sym (three_form (get_or s 0 0) (get_or s 1 0) (get_or s 2 0) d r n.rest)
          ∙ ap (λ (z : List ℕ). names three z r ++ n.rest) (sym (four_listed s l.size))
          ∙ n.is;
    }

-- version 4: from a whole to its pairs
name_four : (t : List ℕ) → Named four t → AfterCountry four t
unfolding lead
name_four t n =
    let s = n.signer in
    let r = n.reference in
    let l = n.legal.signer in
    let d = get_or s 3 0 in
    let k = length r in
    record {
      a = lead s;
      legal = lead_first s l;
      rest = counted_item (d, k) ++ (c40 r ++ n.rest);
      more = record {
        a = (d, k);
        legal = (l.fourth, n.legal.size.0, n.legal.size.1);
        rest = c40 r ++ n.rest;
        more = text_texts (Issued four (16 + width k)) r n.legal.reference n.rest n.more;
        is = refl;
      };
      is =
          sym (four_form (get_or s 0 0) (get_or s 1 0) (get_or s 2 0) d r n.rest)
          ∙ ap (λ (z : List ℕ). names four z r ++ n.rest) (sym (four_listed s l.size))
          ∙ n.is;
    }

-- from a whole to its pairs
pub name_to : (v : Version) (t : List ℕ) → Named v t → AfterCountry v t
name_to three t n = name_three t n
name_to four t n = name_four t n

-- a signer of its first three characters and its last
signed_by : (x : List ℕ) (d : ℕ) → First x → LetterOrDigit d → Signer (get_or x 0 0 ∷ get_or x 1 0 ∷ get_or x 2 0 ∷ d ∷ [])
signed_by x d f h = record { size = refl; first = f.first; second = f.second; third = f.third; fourth = h }

-- version 3: from pairs to a whole
three_name : (t : List ℕ) → AfterCountry three t → Named three t
three_name t n =
    let y = texts_from (Issued three 18) 6 n.rest n.more in
    go y.a y.legal.0 y.legal.1 y.rest y.more y.is
  where
    go :
        (y : List ℕ) →
        length y ≡ 6 →
        All LetterOrDigit y →
        (rest : List ℕ) →
        Issued three 18 rest →
        c40 y ++ rest ≡ n.rest →
        Named three t
    go [] l h rest q e = absurd (omega arith)
    go (d ∷ r) l h rest q e =
        let x = n.a in
        record {
          signer = get_or x 0 0 ∷ get_or x 1 0 ∷ get_or x 2 0 ∷ d ∷ [];
          reference = r;
          legal = record { signer = signed_by x d n.legal h.0; reference = h.1; size = omega arith };
          rest = rest;
          more = q;
          is =
              three_form (get_or x 0 0) (get_or x 1 0) (get_or x 2 0) d r rest
              ∙ ap₂ (λ (z : List ℕ) (u : List ℕ). c40 z ++ u) (sym (three_listed x n.legal.size)) e
              ∙ n.is;
        }

-- version 4: from pairs to a whole
four_name : (t : List ℕ) → AfterCountry four t → Named four t
four_name t n =
    let x = n.a in
    let m = n.more in
    let d = m.a.0 in
    let k = m.a.1 in
    let y = texts_from (Issued four (16 + width k)) k m.rest m.more in
    let r = y.a in
    let size : length r ≡ k = y.legal.0 in
    let inner : counted_item (d, length r) ++ (c40 r ++ y.rest) ≡ n.rest =
    ap₂ (λ (i : ℕ) (u : List ℕ). counted_item (d, i) ++ u) size y.is ∙ m.is in
    record {
      signer = get_or x 0 0 ∷ get_or x 1 0 ∷ get_or x 2 0 ∷ d ∷ [];
      reference = r;
      legal = record {
        signer = signed_by x d n.legal m.legal.0;
        reference = y.legal.1;
        size = (omega (arith, m.legal.1), omega (arith, m.legal.2));
      };
      rest = y.rest;
      more = subst (λ (i : ℕ). Issued four (16 + width i) y.rest) (sym size) y.more;
      is =
          four_form (get_or x 0 0) (get_or x 1 0) (get_or x 2 0) d r y.rest
          ∙ ap₂ (λ (z : List ℕ) (u : List ℕ). c40 z ++ u) (sym (three_listed x n.legal.size)) inner
          ∙ n.is;
    }

-- from pairs to a whole
pub name_from : (v : Version) (t : List ℕ) → AfterCountry v t → Named v t
name_from three t n = three_name t n
name_from four t n = four_name t n
