-- The signature item by item, one law for each answer.
-- Assumes nothing.
use Rattle.std.specs.Prelude.{◌≡◌, true, false, ℕ, ◌+◌, ◌≤◌, ◌<◌, List, length}
use Rattle.std.proofs.Math.Path.{refl, sym}
use Rattle.std.proofs.Common.{arith, lt-ltb, le-ltb}
use Rattle.causes.specs.declared.Item.TheVariants as item
use Rattle.causes.specs.declared.Rule.{Rule}
use Rattle.causes.specs.declared.Rule.TheVariants as rule
use Rattle.verdict.specs.Items.{is, not, why, whole, der_length}
use Rattle.verdict.specs.Judge.{signature, raw_in, end_in}
use Rattle.fields.specs.Signature.{is_signature}
use Rattle.read_items.specs.Meaning.Laws.{Past, judged}

module _ (s : List ℕ) (at : ℕ) where
  pub signature_length_lem : (rule : Rule) (place : ℕ) → not rule place ≡ der_length at s
      → not (why item.SignatureLength rule) place ≡ signature at s
  unfolding signature
  signature_length_lem rule place e0 = rw (sym e0) refl

  module _ (n start : ℕ) (e0 : is n start ≡ der_length at s) where
    pub signature_size_lem : is_signature n ≡ false → not (why item.SignatureLength rule.SignatureSize) at ≡ signature at s
    unfolding signature
    signature_size_lem e1 = rw (sym e0, e1) refl

    module _ (e1 : is_signature n ≡ true) where
      pub signature_cut : not rule.There start ≡ whole n start s (raw_in n start)
          → not (why item.Signature rule.There) start ≡ signature at s
      unfolding signature
      signature_cut e2 = rw (sym e0, e1, sym e2) refl

      module _ (end : ℕ) (p : Past n start s end) where
        abbrev raw : whole n start s (raw_in n start) ≡ is n (start + n)
        raw = judged n start s end (raw_in n start) p

        pub signature_more : end < length s → not (why item.End rule.NothingAfter) end ≡ signature at s
        unfolding signature
        signature_more h =
            let more : end_in start s n (start + n) ≡ not (why item.End rule.NothingAfter) (start + n) =
            rw (lt-ltb (start + n) (length s) (omega (arith, p.reached))) refl in
            rw (sym e0, e1, raw, p.reached) (sym more)

        pub signature_is : length s ≤ end → is n start ≡ signature at s
        unfolding signature
        signature_is h =
            let all : end_in start s n (start + n) ≡ is n start = rw (le-ltb (start + n) (length s) (omega (arith, p.reached))) refl in
            rw (sym e0, e1, raw) (sym all)
