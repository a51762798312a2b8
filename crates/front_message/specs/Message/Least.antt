-- The shortest way to an end behind each item: behind FF a signature zone has 57 bytes at least, and features and
-- signature together have 58.
-- Assumes nothing.
use Rattle.std.specs.Prelude.{◌≡◌, refl, List, [], ◌∷◌, ◌++◌, ℕ, ◌+◌, ◌≤◌, length, replicate}
use Rattle.std.proofs.Common.{sym, ap, subst, ◌∙◌, arith, length-append}
use Rattle.std.proofs.lemmas.List.{length-replicate}
use Rattle.format.specs.Bytes.{Bytes}
use Rattle.format.specs.Bytes.Laws.{bytes_nil, bytes_replicate}
use Rattle.der.specs.Length.{form}
use Rattle.der.proofs.Lengths.Exact.{form_short, form_some}
use Rattle.grammar.specs.Content.{Version, three, four}
use Rattle.grammar.specs.Publish.{length_of, message_zone}
use Rattle.grammar.specs.Legal.{ValueSize, SignatureSize, n28, n32, n48, n64, n66}
use Rattle.front.proofs.Room.{Cheapest}
use Rattle.front_message.specs.Message.Laws.{length_some, zero_is}
use Rattle.front_message.specs.Message.Languages.{Raw, Sig, Msg, Value, Tagged}
use Rattle.front_message.specs.Message.Steps.{mark_msg, msg_value, value_tagged}

-- bytes that stand for any
pub zeros : ℕ → List ℕ
zeros n = replicate n 0

-- so many
pub zeros_length : (n : ℕ) → length (zeros n) ≡ n
unfolding zeros
zeros_length n = length-replicate n 0

-- and bytes
pub zeros_bytes : (n : ℕ) → Bytes (zeros n)
unfolding zeros
zeros_bytes n = bytes_replicate n 0 (omega arith)

-- as a signature has them
pub zeros_raw : (n : ℕ) → Raw n (zeros n)
zeros_raw n = (zeros_length n, zeros_bytes n)

-- a signature has 56 to 132 bytes
pub signature_range : (n : ℕ) → SignatureSize n → (56 ≤ n) × (n ≤ 132)
signature_range n n28 = (omega arith, omega arith)
signature_range n n32 = (omega arith, omega arith)
signature_range n n48 = (omega arith, omega arith)
signature_range n n64 = (omega arith, omega arith)
signature_range n n66 = (omega arith, omega arith)

-- a length and a signature of so many bytes
pub raw_sig : (n : ℕ) → SignatureSize n → (x : List ℕ) → form n ≡ x → (t : List ℕ) → Raw n t → Sig (x ++ t)
raw_sig n z x e t r = record {
  sig = t;
  size = subst SignatureSize (sym r.0) z;
  bytes = r.1;
  is = ap (λ k. form k ++ t) r.0 ∙ ap (λ y. y ++ t) e;
}

-- behind FF
pub sig_cheapest : Cheapest Sig 57
sig_cheapest = record {
  all = λ t s. subst (λ x. 57 ≤ length x) s.is
      (omega (arith, length-append (form (length s.sig)) s.sig, form_some (length s.sig), signature_range _ s.size));
  one = 56 ∷ zeros 56;
  is = raw_sig 56 n28 (56 ∷ []) (form_short 56 (omega arith)) (zeros 56) (zeros_raw 56);
  size = omega (arith, zeros_length 56);
}

module _ (v : Version) (used : List ℕ) where
  -- at a tag or FF
  pub msg_cheapest : Cheapest (Msg v used) 58
  msg_cheapest = record {
    all = λ t m. subst (λ x. 58 ≤ length x) m.is
        (omega (arith, length-append (message_zone v m.fs) (0xFF ∷ m.tail), sig_cheapest.all m.tail m.sig));
    one = 0xFF ∷ sig_cheapest.one;
    is = mark_msg v used sig_cheapest.one sig_cheapest.is;
    size = omega (arith, sig_cheapest.size);
  }

  -- behind a length n
  pub value_cheapest : (n : ℕ) → Cheapest (Value v used n) (n + 58)
  value_cheapest n = record {
    all = λ t w. subst (λ x. n + 58 ≤ length x) w.is
        (omega (arith, length-append w.value w.rest, w.size, msg_cheapest.all w.rest w.more));
    one = zeros n ++ msg_cheapest.one;
    is = msg_value v used n (zeros n) (zeros_length n) (zeros_bytes n) msg_cheapest.one msg_cheapest.is;
    size = omega (arith, length-append (zeros n) msg_cheapest.one, zeros_length n, msg_cheapest.size);
  }

  -- behind a tag
  pub tagged_cheapest : Cheapest (Tagged v used) 59
  tagged_cheapest =
      let msg = msg_cheapest in
      record {
        all = λ t g. subst (λ x. 59 ≤ length x) g.is
            (omega (
              arith,
              length-append (length_of v g.n) g.rest,
              length_some v g.n,
              (value_cheapest g.n).all g.rest g.more,
            ));
        one = 0 ∷ msg.one;
        is = value_tagged v used 0 (none v) (0 ∷ []) (zero_is v) msg.one (msg_value v used 0 [] refl bytes_nil msg.one msg.is);
        size = omega (arith, msg.size);
      }
    where
      none : (w : Version) → ValueSize w 0
      none three = omega arith
      none four = tt
