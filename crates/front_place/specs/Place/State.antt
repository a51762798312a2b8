-- What may stand from an item on, so that the whole is an accepted seal, where the items before it are settled.
-- Assumes nothing.
use Rattle.std.specs.Prelude.{◌≡◌, List, ◌++◌, ℕ, ◌+◌, ◌≤◌, length}
use Rattle.std.proofs.Common.{sym, subst, append_assoc}
use Rattle.format.specs.Cut.{Cut}
use Rattle.c40.specs.Text.{width}
use Rattle.grammar.specs.Content.{three, four}
use Rattle.grammar.specs.Legal.{Unused}
use Rattle.rules.specs.Layout.{Item}
use Rattle.front_message.specs.Message.Languages.{Raw, Sig, Msg, Value, Tagged}
use Rattle.front_header.specs.Header.Chain.{Then, put}
use Rattle.front_header.specs.Header.Languages.{Category, Definition, Signed, Issued, Texts}
use Rattle.front_header.specs.Header.Languages.{AfterCountry, AfterVersion, AfterMark, Start}

-- the bytes x in front of a string of P leave the strings of Q, and no others
pub record Leaves (P : List ℕ → Type 0) (x : List ℕ) (Q : List ℕ → Type 0) : Type 0 where
  pub to : (t : List ℕ) → P (x ++ t) → Q t
  pub from : (t : List ℕ) → Q t → P (x ++ t)

-- one after the other
pub leaves_both :
    {P Q R : List ℕ → Type 0} (x y : List ℕ) → Leaves P x Q → Leaves Q y R → Leaves P (x ++ y) R
leaves_both {P} x y a b = record {
  to = λ t p. b.to t (a.to (y ++ t) (subst P (append_assoc x y t) p));
  from = λ t r. subst P (sym (append_assoc x y t)) (a.from (y ++ t) (b.from t r));
}

-- the same bytes, otherwise written
pub leaves_as : {P Q : List ℕ → Type 0} (x y : List ℕ) → x ≡ y → Leaves P x Q → Leaves P y Q
leaves_as {P} {Q} x y e l = subst (λ (z : List ℕ). Leaves P z Q) e l

-- the form of an item leaves what may stand behind its value
pub then_leaves :
    {A : Type 0} (L : A → Type 0) (p : A → List ℕ) (Q : A → List ℕ → Type 0) →
    Cut L p →
    (a : A) →
    L a →
    Leaves (Then L p Q) (p a) (Q a)
then_leaves {A} L p Q cut a l = record {
  to = λ t y.
      let c = cut y.a a y.rest t y.legal l y.is in
      subst (Q a) c.1 (subst (λ (z : A). Q z y.rest) c.0 y.more);
  from = λ t q. put p a l t q;
}

-- a string that ends a seal of at most 4,096 bytes, from a place on
abbrev pub Fits : ℕ → (List ℕ → Type 0) → List ℕ → Type 0
Fits p L t = L t × (p + length t ≤ 4096)

-- what may stand from an item on, whose first byte stands at p
abbrev pub State : Item → ℕ → List ℕ → Type 0
State Item.seal p = Start
State Item.mark p = Start
State Item.version p = AfterMark
State (Item.country v) p = AfterVersion v
State Item.names p = AfterCountry three
State Item.signer_and_length p = AfterCountry four
State (Item.reference n) p = Texts n (Issued four (16 + width n))
State (Item.issued v) p = Issued v (p + 8)
State (Item.signed v) p = Signed v (p + 5)
State (Item.definition v) p = Definition v (p + 2)
State (Item.category v) p = Category v (p + 1)
State (Item.tag v tags) p = Fits p (Msg v tags)
State (Item.value_length v tags) p = Fits p (Tagged v tags)
State (Item.value v tags n) p = Fits p (Value v tags n)
State Item.signature_length p = Fits p Sig
State (Item.signature n) p = Fits p (Raw n)
State Item.end p = Fits p (Raw 0)

-- what the way to an item settles beside that: where the items of a header stand, how long a reference is, and that FF
-- is no tag
abbrev pub Known : Item → ℕ → Type 0
Known Item.seal p = p ≡ 0
Known Item.mark p = p ≡ 0
Known Item.version p = p ≡ 1
Known (Item.country v) p = p ≡ 2
Known Item.names p = p ≡ 4
Known Item.signer_and_length p = p ≡ 4
Known (Item.reference n) p = (p ≡ 8) × (1 ≤ n) × (n ≤ 255)
Known (Item.issued v) p = p ≤ 178
Known (Item.signed v) p = p ≤ 181
Known (Item.definition v) p = p ≤ 184
Known (Item.category v) p = p ≤ 185
Known (Item.tag v tags) p = Unused 0xFF tags
Known (Item.value_length v tags) p = Unused 0xFF tags
Known (Item.value v tags n) p = Unused 0xFF tags
Known Item.signature_length p = Unit
Known (Item.signature n) p = Unit
Known Item.end p = Unit
