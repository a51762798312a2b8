-- Laws of the longest front part: there is one; where the input ends, stops or is whole; what some bytes in front
-- leave; and how far at most.
-- Assumes nothing.
use Rattle.std.specs.Prelude.{◌≡◌, List, [], ◌∷◌, ◌++◌, ℕ, suc, ◌+◌, ◌<◌, ◌≤◌, ltb, length, take, drop}
use Rattle.std.proofs.Common.{sym, ap, ◌∙◌, subst, append_assoc, append-nil, arith, ltb-true, ltb-false, length-append, length-take, take-append-drop, take-take, take_all, length-take-le}
use Rattle.std.proofs.Math.Seq.{take-append-add}
use Rattle.format.specs.Choice.Laws.{by_test}
use Rattle.front.specs.Front.{Begins, Longest}

module _ (P : List ℕ → Type 0) where
  -- what begins a string begins with less
  pub begins_less : (q r : List ℕ) → Begins P (q ++ r) → Begins P q
  begins_less q r b = (r ++ b.0, rw (append_assoc q r b.0) at b.1)

  -- and so with fewer of some bytes
  pub begins_take : (j k : ℕ) (s : List ℕ) → j ≤ k → Begins P (take k s) → Begins P (take j s)
  begins_take j k s h b =
      subst (Begins P) (take-take j k s h)
      (begins_less (take j (take k s)) (drop j (take k s)) (subst (Begins P) (sym (take-append-drop j (take k s))) b))

  -- where one length is longest, no other that is begun is longer
  longest_most : (s : List ℕ) (j k : ℕ) → Longest P s j → Longest P s k → k ≤ j
  longest_most s j k a b =
      by_test (ltb j k)
      (λ e.
      let h = ltb-true j k e in
      let n = b.within in
      absurd (a.no_more (omega arith) (begins_take (suc j) k s (omega arith) b.begun)))
      (λ e. ltb-false j k e)

  -- there is one
  pub longest_one : (s : List ℕ) (j k : ℕ) → Longest P s j → Longest P s k → j ≡ k
  longest_one s j k a b = omega (arith, longest_most s j k a b, longest_most s k j b a)

  -- a whole string
  pub longest_whole : (s : List ℕ) → P s → Longest P s (length s)
  longest_whole s p = record {
    within = omega arith;
    begun = ([], subst P (sym (append-nil (take (length s) s) ∙ take_all (length s) s (omega arith))) p);
    no_more = λ h. absurd (omega arith);
  }

  -- the input ends, and may go on
  pub longest_end : Begins P [] → Longest P [] 0
  longest_end b = record { within = omega arith; begun = b; no_more = λ h. absurd (omega arith) }

  -- no string begins with the first byte
  pub longest_stop : (b : ℕ) (s : List ℕ) → Begins P [] → (Begins P (b ∷ []) → ⊥) → Longest P (b ∷ s) 0
  longest_stop b s h n = record { within = omega arith; begun = h; no_more = λ _. n }

  -- where there is a longest front part, there is a string
  pub longest_some : (s : List ℕ) (k : ℕ) → Longest P s k → Begins P []
  longest_some s k l = begins_less [] (take k s) l.begun

  -- one language for another with the same strings
  pub longest_same :
      (Q : List ℕ → Type 0) →
      ((t : List ℕ) → P t → Q t) →
      ((t : List ℕ) → Q t → P t) →
      (s : List ℕ) (k : ℕ) →
      Longest Q s k →
      Longest P s k
  longest_same Q to from s k l = record {
    within = l.within;
    begun = let b = l.begun in (b.0, from (take k s ++ b.0) b.1);
    no_more = λ h b. l.no_more h (b.0, to (take (suc k) s ++ b.0) b.1);
  }

  -- some bytes x in front leave another language, Q: what may stand behind them
  pub longest_after :
      (x : List ℕ) (Q : List ℕ → Type 0) →
      ((t : List ℕ) → P (x ++ t) → Q t) →
      ((t : List ℕ) → Q t → P (x ++ t)) →
      (s : List ℕ) (k : ℕ) →
      Longest Q s k →
      Longest P (x ++ s) (length x + k)
  longest_after x Q to from s k l = record {
    within = omega (arith, length-append x s, l.within);
    begun = back k l.begun;
    no_more = λ h b.
        let e : suc (length x + k) ≡ length x + suc k = omega arith in
        l.no_more (omega (arith, length-append x s)) (forth (suc k) (subst (λ (n : ℕ). Begins P (take n (x ++ s))) e b));
  }
    where
      behind : (n : ℕ) (t : List ℕ) → take (length x + n) (x ++ s) ++ t ≡ x ++ (take n s ++ t)
      behind n t = ap (λ (q : List ℕ). q ++ t) (take-append-add x s n) ∙ append_assoc x (take n s) t

      back : (n : ℕ) → Begins Q (take n s) → Begins P (take (length x + n) (x ++ s))
      back n b = (b.0, subst P (sym (behind n b.0)) (from (take n s ++ b.0) b.1))

      forth : (n : ℕ) → Begins P (take (length x + n) (x ++ s)) → Begins Q (take n s)
      forth n b = (b.0, to (take n s ++ b.0) (subst P (behind n b.0) b.1))

  -- nothing behind the longest front part and one byte more makes a string of it
  pub none_behind : (s : List ℕ) (k : ℕ) → Longest P s k → k < length s → (t : List ℕ) → take (suc k) t ≡ take (suc k) s → P t → ⊥
  none_behind s k l h t e p =
      l.no_more h (subst (Begins P) e (drop (suc k) t, subst P (sym (take-append-drop (suc k) t)) p))

  -- a string that is given whole is begun whole
  pub whole_begun : (s : List ℕ) (k : ℕ) → Longest P s k → P s → k ≡ length s
  whole_begun s k l p = longest_one s k (length s) l (longest_whole s p)

  -- where strings have so many bytes at most
  module _ (limit : ℕ) (short : (t : List ℕ) → P t → length t ≤ limit) where
    -- so has the longest front part
    pub within_limit : (s : List ℕ) (k : ℕ) → Longest P s k → k ≤ limit
    within_limit s k l =
        let b = l.begun in
        let size = length-take-le k s l.within in
        omega (arith, short (take k s ++ b.0) b.1, length-append (take k s) b.0)

    -- and one byte more than that settles it
    pub limit_decides :
        (s t : List ℕ) (k : ℕ) → take (suc limit) s ≡ take (suc limit) t → Longest P s k → Longest P t k
    limit_decides s t k e l =
        let most = within_limit s k l in
        record {
          within = omega (arith, ap length (alike k (omega arith)), length-take k s, length-take k t, l.within);
          begun = subst (Begins P) (alike k (omega arith)) l.begun;
          no_more = λ h b.
              let same = alike (suc k) (omega arith) in
              l.no_more (omega (arith, ap length same, length-take (suc k) s, length-take (suc k) t)) (subst (Begins P) (sym same) b);
        }
      where
        alike : (n : ℕ) → n ≤ suc limit → take n s ≡ take n t
        alike n h = sym (take-take n (suc limit) s h) ∙ ap (take n) e ∙ take-take n (suc limit) t h
