-- The items of the message and signature zones: each leaves what may stand behind it, and so much less room.
-- Assumes nothing.
use Rattle.std.specs.Prelude.{◌≡◌, refl, List, [], ◌∷◌, ◌++◌, ℕ, ◌+◌, ◌≤◌, ◌<◌, length}
use Rattle.std.proofs.Common.{sym, ap, ◌∙◌, subst, arith, length-append, get_or-append-add}
use Rattle.format.specs.Bytes.{Bytes}
use Rattle.format.specs.Bytes.Laws.{bytes_append}
use Rattle.der.specs.Length.{Sized, form}
use Rattle.der.proofs.Lengths.Exact.{cut_form}
use Rattle.grammar.specs.Content.{Version, three, four}
use Rattle.grammar.specs.Publish.{length_of}
use Rattle.grammar.specs.Legal.{ValueSize, Unused, SignatureSize}
use Rattle.grammar.proofs.Sizes.{unused_not}
use Rattle.front_message.specs.Message.Laws.{head_is, tail_is}
use Rattle.front_message.specs.Message.Languages.{Raw, Sig, Msg, Value, Tagged}
use Rattle.front_message.specs.Message.Least.{value_cheapest, signature_range, raw_sig}
use Rattle.front_message.specs.Message.Steps.{msg_mark, mark_msg, msg_tag, tag_msg, value_msg, msg_value, value_tagged}
use Rattle.front_place.specs.Place.State.{Leaves, Fits}

-- with a limit of 4,096 bytes
pub fits_leaves : {P Q : List ℕ → Type 0} (p : ℕ) (x : List ℕ) → Leaves P x Q → Leaves (Fits p P) x (Fits (p + length x) Q)
fits_leaves p x l = record {
  to = λ t y. (l.to t y.0, omega (arith, length-append x t, y.1));
  from = λ t y. (l.from t y.0, omega (arith, length-append x t, y.1));
}

module _ (v : Version) (tags : List ℕ) where
  -- FF leaves a signature
  pub mark_leaves : (b : ℕ) → b ≡ 0xFF → Leaves (Msg v tags) (b ∷ []) Sig
  mark_leaves b e = record {
    to = λ t m. msg_mark v tags t (subst (λ (x : ℕ). Msg v tags (x ∷ t)) e m);
    from = λ t g. subst (λ (x : ℕ). Msg v tags (x ∷ t)) (sym e) (mark_msg v tags t g);
  }

  -- a tag that is new leaves a length
  pub tag_leaves : (b : ℕ) → (b ≡ 0xFF → ⊥) → b < 256 → Unused b tags → Leaves (Msg v tags) (b ∷ []) (Tagged v (b ∷ tags))
  tag_leaves b d h new = record {
    to = λ t m. (msg_tag v tags b d t m).1;
    from = λ t g. tag_msg v tags b (omega arith) (unused_not b tags new) t g;
  }

  -- a value leaves more features
  pub value_leaves : (n : ℕ) (x : List ℕ) → length x ≡ n → Bytes x → Leaves (Value v tags n) x (Msg v tags)
  value_leaves n x size bytes = record { to = value_msg v tags n x size bytes; from = msg_value v tags n x size bytes }

-- a length is cut off in one way only
pub cut_length :
    (v : Version) (n m : ℕ) (t u : List ℕ) → Sized n → Sized m → length_of v n ++ t ≡ length_of v m ++ u → (n ≡ m) × (t ≡ u)
cut_length three n m t u a b e = (head_is e, tail_is e)
cut_length four n m t u a b e = cut_form n m t u a b e

module _ (v : Version) (tags : List ℕ) where
  -- a length whose value has room is below 2 ^ 32
  pub fits_sized : (p : ℕ) (t : List ℕ) (g : Tagged v tags t) → p + length t ≤ 4096 → Sized g.n
  fits_sized p t g h =
      let all = (value_cheapest v tags g.n).all g.rest g.more in
      omega (arith, ap length g.is, length-append (length_of v g.n) g.rest)

  -- a length leaves a value of so many bytes
  pub length_leaves :
      (p n : ℕ) →
      Sized n →
      ValueSize v n →
      Leaves (Fits p (Tagged v tags)) (length_of v n) (Fits (p + length (length_of v n)) (Value v tags n))
  length_leaves p n sized size = record {
    to = λ t y.
        let g = y.0 in
        let c = cut_length v g.n n g.rest t (fits_sized p (length_of v n ++ t) g y.1) sized g.is in (
          subst (λ (k : ℕ). Value v tags k t) c.0 (subst (Value v tags g.n) c.1 g.more),
          omega (arith, length-append (length_of v n) t, y.1),
        );
    from = λ t y. (
      value_tagged v tags n size (length_of v n) refl t y.0,
      omega (arith, length-append (length_of v n) t, y.1),
    );
  }

-- a signature's length leaves so many bytes
pub signature_leaves : (n : ℕ) → SignatureSize n → Leaves Sig (form n) (Raw n)
signature_leaves n z = record {
  to = λ t g.
      let r = signature_range n z in
      let q = signature_range (length g.sig) g.size in
      let c = cut_form (length g.sig) n g.sig t (omega arith) (omega arith) g.is in
      (ap length (sym c.1) ∙ c.0, subst Bytes c.1 g.bytes);
  from = λ t r. raw_sig n z (form n) refl t r;
}

-- bytes behind bytes
bytes_behind : (x t : List ℕ) → Bytes (x ++ t) → Bytes t
bytes_behind x t b i = subst (λ (n : ℕ). n < 256) (get_or-append-add x t i 0) (b (length x + i))

-- and those leave nothing
pub raw_leaves : (n : ℕ) (x : List ℕ) → length x ≡ n → Bytes x → Leaves (Raw n) x (Raw 0)
raw_leaves n x size bytes = record {
  to = λ t r. (omega (arith, length-append x t, r.0), bytes_behind x t r.1);
  from = λ t r. (length-append x t ∙ omega (arith, r.0), bytes_append x t bytes r.1);
}
