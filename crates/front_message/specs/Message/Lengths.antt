-- The length of a version 4 feature by its first byte: a plain byte, 81, 82, or one that is too much for a seal; and
-- the shortest way to an end behind each.
-- Assumes nothing.
use Rattle.std.specs.Prelude.{◌≡◌, List, [], ◌∷◌, ◌++◌, ℕ, ◌+◌, ◌*◌, ◌/◌, ◌%◌, ◌≤◌, ◌<◌, ltb, length, get_or}
use Rattle.std.proofs.Common.{sym, ap, ◌∙◌, subst, arith, ltb-true, ltb-false, length-append}
use Rattle.std.proofs.Math.ListN.{get_or-append}
use Rattle.format.specs.Choice.Laws.{by_test}
use Rattle.der.specs.Length.{form}
use Rattle.der.proofs.Lengths.Exact.{form_short, form_some}
use Rattle.grammar.specs.Content.{four}
use Rattle.front.proofs.Room.{Cheapest}
use Rattle.front_message.specs.Message.Laws.{head_is, tail_is, form_one, form_two, form_bytes, form_great}
use Rattle.front_message.specs.Message.Languages.{Value, Tagged}
use Rattle.front_message.specs.Message.Steps.{value_tagged}
use Rattle.front_message.specs.Message.Least.{value_cheapest}

-- how a length begins, and what stands behind it
pub data Kind (used : List ℕ) (b : ℕ) (t : List ℕ) : Type 0 where
  plain : b < 128 → Value four used b t → Kind used b t
  one : b ≡ 0x81 → (n : ℕ) (rest : List ℕ) → 128 ≤ n → n < 256 → Value four used n rest → t ≡ n ∷ rest → Kind used b t
  two : b ≡ 0x82 → (n : ℕ) (rest : List ℕ) → 256 ≤ n → n < 65536 → Value four used n rest → t ≡ n / 256 ∷ n % 256 ∷ rest → Kind used b t
  great : 131 ≤ b → 65536 ≤ length t → Kind used b t

module _ (used : List ℕ) where
  -- each length begins so
  kind : (b : ℕ) (t : List ℕ) → Tagged four used (b ∷ t) → Kind used b t
  kind b t g =
      let n = g.n in
      let at : (x : List ℕ) → form n ≡ x → x ++ g.rest ≡ b ∷ t = λ x d. ap (λ y. y ++ g.rest) (sym d) ∙ g.is in
      by_test (ltb n 128)
      (λ h.
      let e = at (n ∷ []) (form_short n (ltb-true n 128 h)) in
      let p : n ≡ b = head_is e in
      plain (omega (arith, ltb-true n 128 h)) (subst (λ m. Value four used m t) p (subst (Value four used n) (tail_is e) g.more)))
      (λ h. by_test (ltb n 256)
      (λ i.
      let e = at (0x81 ∷ n ∷ []) (form_one n (ltb-false n 128 h) (ltb-true n 256 i)) in
      one (sym (head_is e)) n g.rest (ltb-false n 128 h) (ltb-true n 256 i) g.more (sym (tail_is e)))
      (λ i. by_test (ltb n 65536)
      (λ j.
      let e = at (0x82 ∷ n / 256 ∷ n % 256 ∷ []) (form_two n (ltb-false n 256 i) (ltb-true n 65536 j)) in
      two (sym (head_is e)) n g.rest (ltb-false n 256 i) (ltb-true n 65536 j) g.more (sym (tail_is e)))
      (λ j.
      let large = ltb-false n 65536 j in
      let some = form_some n in
      let first = ap (λ l. get_or l 0 0) g.is in
      great (omega (arith, form_great n large, get_or-append (form n) g.rest 0 0 some))
      (omega (arith, ap length g.is, length-append (form n) g.rest, (value_cheapest four used n).all g.rest g.more)))))

  -- behind 81; behind 82; and behind 82 and a byte
  abbrev pub LongOne : List ℕ → Type 0
  LongOne t = Tagged four used (0x81 ∷ t)

  abbrev pub LongTwo : List ℕ → Type 0
  LongTwo t = Tagged four used (0x82 ∷ t)

  abbrev pub LongLast : ℕ → List ℕ → Type 0
  LongLast high t = Tagged four used (0x82 ∷ high ∷ t)

  -- a length in its form, and a value behind it
  pub four_from : (n : ℕ) (x : List ℕ) → form n ≡ x → (t : List ℕ) → Value four used n t → Tagged four used (x ++ t)
  four_from n x e t w = value_tagged four used n tt x e t w

  -- a plain byte leaves a value
  pub four_plain : (b : ℕ) → b < 128 → (t : List ℕ) → Tagged four used (b ∷ t) → Value four used b t
  four_plain b h t g = go (kind b t g)
    where
      go : Kind used b t → Value four used b t
      go (plain _ w) = w
      go (one e n rest _ _ _ _) = absurd (omega arith)
      go (two e n rest _ _ _ _) = absurd (omega arith)
      go (great p q) = absurd (omega arith)

  -- behind 81 a byte of 128 and up leaves a value
  pub four_one : (b : ℕ) (t : List ℕ) → LongOne (b ∷ t) → (128 ≤ b) × Value four used b t
  four_one b t g = go (kind 0x81 (b ∷ t) g)
    where
      go : Kind used 0x81 (b ∷ t) → (128 ≤ b) × Value four used b t
      go (plain h w) = absurd (omega arith)
      go (one e n rest h i w q) =
          let z : b ≡ n = head_is q in
          (omega arith, subst (λ m. Value four used m t) (sym z) (subst (Value four used n) (sym (tail_is q)) w))
      go (two e n rest _ _ _ _) = absurd (omega arith)
      go (great p q) = absurd (omega arith)

  -- behind 82 and its first byte: the length, and a value behind its last byte
  pub record Two (high : ℕ) (t : List ℕ) : Type 0 where
    pub n : ℕ
    pub rest : List ℕ
    pub low : 256 ≤ n
    pub more : Value four used n rest
    pub is : high ∷ t ≡ n / 256 ∷ n % 256 ∷ rest

  -- a length behind 82 is so
  pub four_two : (high : ℕ) (t : List ℕ) → LongLast high t → Two high t
  four_two high t g = go (kind 0x82 (high ∷ t) g)
    where
      go : Kind used 0x82 (high ∷ t) → Two high t
      go (plain h w) = absurd (omega arith)
      go (one e n rest _ _ _ _) = absurd (omega arith)
      go (two e n rest h i w q) = record { n = n; rest = rest; low = h; more = w; is = q }
      go (great p q) = absurd (omega arith)

  -- the first byte behind 82 is not 0
  pub four_high : (high : ℕ) (t : List ℕ) → LongLast high t → 1 ≤ high
  four_high high t g = let r = four_two high t g in let p = head_is r.is in omega arith

  -- the last byte leaves a value
  pub four_last : (high b : ℕ) (t : List ℕ) → LongLast high (b ∷ t) → Value four used (high * 256 + b) t
  four_last high b t g =
      let r = four_two high (b ∷ t) g in
      let q = tail_is r.is in
      let n : r.n ≡ high * 256 + b = omega (arith, head_is r.is, head_is q) in
      subst (λ m. Value four used m t) n (subst (Value four used r.n) (sym (tail_is q)) r.more)

  -- any other first byte is too much for a seal
  pub four_else : (b : ℕ) (t : List ℕ) → 128 ≤ b → (b ≡ 0x81 → ⊥) → (b ≡ 0x82 → ⊥) → Tagged four used (b ∷ t) → 4096 ≤ length t
  four_else b t h d d' g = go (kind b t g)
    where
      go : Kind used b t → 4096 ≤ length t
      go (plain i w) = absurd (omega arith)
      go (one e n rest _ _ _ _) = absurd (d e)
      go (two e n rest _ _ _ _) = absurd (d' e)
      go (great p q) = omega arith

  -- behind 81: a byte, 128 and 58
  pub one_cheapest : Cheapest LongOne 187
  one_cheapest =
      let c = value_cheapest four used 128 in
      record {
        all = λ t g. go t (kind 0x81 t g);
        one = 128 ∷ c.one;
        is = four_from 128 (0x81 ∷ 128 ∷ []) (form_one 128 (omega arith) (omega arith)) c.one c.is;
        size = omega (arith, c.size);
      }
    where
      go : (t : List ℕ) → Kind used 0x81 t → 187 ≤ length t
      go t (plain h w) = absurd (omega arith)
      go t (one e n rest h i w q) = omega (arith, ap length q, (value_cheapest four used n).all rest w)
      go t (two e n rest _ _ _ _) = absurd (omega arith)
      go t (great p q) = omega arith

  -- behind 82 and its first byte: a byte, the least length with that byte, and 58
  pub last_cheapest : (high : ℕ) → 1 ≤ high → high < 256 → Cheapest (LongLast high) (1 + high * 256 + 58)
  last_cheapest high h i =
      let c = value_cheapest four used (high * 256 + 0) in
      record {
        all = λ t g.
            let r = four_two high t g in
            let p = head_is r.is in
            omega (arith, ap length (tail_is r.is), (value_cheapest four used r.n).all r.rest r.more);
        one = 0 ∷ c.one;
        is = four_from (high * 256 + 0) (0x82 ∷ high ∷ 0 ∷ []) (form_bytes high 0 h i (omega arith)) c.one c.is;
        size = omega (arith, c.size);
      }

  -- behind 82: two bytes, 256 and 58
  pub two_cheapest : Cheapest LongTwo 316
  two_cheapest =
      let c = last_cheapest 1 (omega arith) (omega arith) in
      record { all = λ t g. go t (kind 0x82 t g); one = 1 ∷ c.one; is = c.is; size = omega (arith, c.size) }
    where
      go : (t : List ℕ) → Kind used 0x82 t → 316 ≤ length t
      go t (plain h w) = absurd (omega arith)
      go t (one e n rest _ _ _ _) = absurd (omega arith)
      go t (two e n rest h i w q) = omega (arith, ap length q, (value_cheapest four used n).all rest w)
      go t (great p q) = omega arith
