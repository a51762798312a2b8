-- What one item leaves: FF the signature zone, a tag a length, a length a value, and a value the features behind it.
-- Assumes nothing.
use Rattle.std.specs.Prelude.{◌≡◌, false}
use Rattle.std.proofs.Math.Path.{refl, sym, subst}
use Rattle.std.proofs.Common.{ap, ap₂, ◌∙◌, arith}
use mathlib.Core.List.{List, [], ◌∷◌, ◌++◌}
use Prim.Native.Nat.{ℕ, ◌≤◌}
use Rattle.std.proofs.Math.ListN.{length}
use Rattle.format.specs.Bytes.{Bytes}
use Rattle.format.proofs.Cut.Laws.{cut_sized}
use Rattle.grammar.specs.Content.{Version, three, Feature}
use Rattle.grammar.specs.Publish.{length_of, message_zone}
use Rattle.grammar.specs.Legal.{ValueSize, LegalFeatures}
use Rattle.grammar.proofs.Sizes.{has, unused_not}
use Rattle.front_message.specs.Message.Laws.{head_is, tail_is, not_unused, message_cons}
use Rattle.front_message.specs.Message.Languages.{Sig, Msg, Value, Tagged}

module _ (v : Version) (used : List ℕ) where
  -- behind FF stands a signature zone
  pub msg_mark : (t : List ℕ) → Msg v used (0xFF ∷ t) → Sig t
  unfolding message_zone
  msg_mark t m = go m.fs m.legal m.is
    where
      go : (fs : List Feature) → LegalFeatures v used fs → message_zone v fs ++ (0xFF ∷ m.tail) ≡ 0xFF ∷ t → Sig t
      go [] l e = subst Sig (tail_is e) m.sig
      go (f ∷ fs) l e = absurd (omega (arith, l.0, head_is e))

  -- and any
  pub mark_msg : (t : List ℕ) → Sig t → Msg v used (0xFF ∷ t)
  unfolding message_zone
  mark_msg t s = record { fs = []; legal = tt; tail = t; sig = s; is = refl }

  module _ (b : ℕ) where
    -- behind any other byte, which is a new tag, stands a length
    pub msg_tag : (b ≡ 0xFF → ⊥) → (t : List ℕ) → Msg v used (b ∷ t) → (has b used ≡ false) × Tagged v (b ∷ used) t
    unfolding message_zone
    msg_tag d t m = go m.fs m.legal m.is
      where
        go : (fs : List Feature) → LegalFeatures v used fs → message_zone v fs ++ (0xFF ∷ m.tail) ≡ b ∷ t →
            (has b used ≡ false) × Tagged v (b ∷ used) t
        go [] l e = absurd (d (sym (head_is e)))
        go (f ∷ fs) l e =
            let rest : List ℕ = message_zone v fs ++ (0xFF ∷ m.tail) in
            let same : f.tag ∷ (length_of v (length f.value) ++ (f.value ++ rest)) ≡ b ∷ t =
            sym (message_cons v f fs (0xFF ∷ m.tail)) ∙ e in
            let tag : f.tag ≡ b = head_is same in
            let legal : LegalFeatures v (b ∷ used) fs = subst (λ x. LegalFeatures v (x ∷ used) fs) tag l.4 in
            let more : Msg v (b ∷ used) rest = record { fs = fs; legal = legal; tail = m.tail; sig = m.sig; is = refl } in (
              subst (λ x. has x used ≡ false) tag (unused_not f.tag used l.1),
              record {
                n = length f.value;
                fits = l.2;
                rest = f.value ++ rest;
                more = record { value = f.value; size = refl; bytes = l.3; rest = rest; more = more; is = refl };
                is = tail_is same;
              },
            )

    -- and any
    pub tag_msg : b ≤ 254 → has b used ≡ false → (t : List ℕ) → Tagged v (b ∷ used) t → Msg v used (b ∷ t)
    tag_msg h new t g =
        let x = g.more.value in
        let m = g.more.more in
        let f : Feature = record { tag = b; value = x } in
        let size : ValueSize v (length x) = subst (ValueSize v) (sym g.more.size) g.fits in
        let behind : x ++ (message_zone v m.fs ++ (0xFF ∷ m.tail)) ≡ g.rest = ap (λ l. x ++ l) m.is ∙ g.more.is in
        record {
          fs = f ∷ m.fs;
          legal = (h, not_unused b used new, size, g.more.bytes, m.legal);
          tail = m.tail;
          sig = m.sig;
          is = message_cons v f m.fs (0xFF ∷ m.tail)
              ∙ ap (λ l. b ∷ l) (ap₂ (λ k l. length_of v k ++ l) g.more.size behind ∙ g.is);
        }

  module _ (n : ℕ) (x : List ℕ) (size : length x ≡ n) (bytes : Bytes x) where
    -- behind a value stand the other features
    pub value_msg : (t : List ℕ) → Value v used n (x ++ t) → Msg v used t
    value_msg t w = subst (Msg v used) (cut_sized n w.value x w.rest t w.size size w.is).1 w.more

    -- and any
    pub msg_value : (t : List ℕ) → Msg v used t → Value v used n (x ++ t)
    msg_value t m = record { value = x; size = size; bytes = bytes; rest = t; more = m; is = refl }

  -- a length in its form, and a value behind it
  pub value_tagged : (n : ℕ) → ValueSize v n → (x : List ℕ) → length_of v n ≡ x → (t : List ℕ) → Value v used n t → Tagged v used (x ++ t)
  value_tagged n h x e t w = record { n = n; fits = h; rest = t; more = w; is = ap (λ y. y ++ t) e }

-- version 3: a byte is the length
pub tagged_three : (used : List ℕ) (b : ℕ) (t : List ℕ) → Tagged three used (b ∷ t) → Value three used b t
tagged_three used b t g = subst (λ n. Value three used n t) (head_is g.is) (subst (Value three used g.n) (tail_is g.is) g.more)
