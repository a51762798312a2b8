-- Laws of reading pair by pair: characters in front, one pair more, the end.
-- Assumes nothing.
use Rattle.std.specs.Prelude.{◌≡◌, refl, true, false, ℕ, ◌+◌, ◌-◌, ◌<◌, ◌≤◌, List, [], ◌∷◌, ◌++◌, length, Ok, Err, Result}
use Rattle.std.proofs.Math.Path.{ap}
use Rattle.std.proofs.Common.{sym, ◌∙◌, eq-eqb, ne_eqb, append_assoc, append-nil, length-append, length-drop}
use native.Mathlib.Omega.{arith}
use Rattle.std.proofs.Math.Dec.{eqb}
use Rattle.std.proofs.Math.ListN.{get_or, drop}
use Rattle.format.specs.Places.{at_place, past_end}
use Rattle.pairs.specs.Chart.{the_chart}
use Rattle.pairs.specs.Pairs.{pair_of, chars_of}
use Rattle.pairs.proofs.Pairs.Laws.{pair_full, chars_some, by_pair}
use Rattle.pairs.specs.declared.decode.Fault.{Fault}
use Rattle.pairs.specs.declared.decode.Pair.{Pair}
use Rattle.pairs.specs.declared.decode.Pair.TheVariants.{Three, Two, One}
use Rattle.c40.specs.declared.WrongPair.{WrongPair}
use Rattle.c40.specs.Decode.{Decoded, text, wrong, ahead, follow, none, decode, text_of, judged_of}

pub ahead_nothing : (d : Decoded) → ahead [] d ≡ d
ahead_nothing (text t) = refl
ahead_nothing (wrong fault at) = refl

pub ahead_ahead : (p q : List ℕ) (d : Decoded) → ahead p (ahead q d) ≡ ahead (p ++ q) d
ahead_ahead p q (text t) = ap text (sym (append_assoc p q t))
ahead_ahead p q (wrong fault at) = refl

-- text with characters in front is those characters and text
pub ahead_text : (p : List ℕ) (d : Decoded) (t : List ℕ) → ahead p d ≡ text t → (u : List ℕ) × (d ≡ text u) × (p ++ u ≡ t)
ahead_text p (text u) t e = (u, refl, cc)
ahead_text p (wrong fault at) t e = let z : ◌≡◌ {A = ℕ} 0 1 = cc in absurd (omega arith)

pub wrong_text : {fault : Fault} {at : ℕ} {t : List ℕ} {d : Decoded} → d ≡ wrong fault at → d ≡ text t → ⊥
wrong_text e f = let z : ◌≡◌ {A = ℕ} 0 1 = cc in omega arith

-- what the judge said, turned back
pub judged_wrong : (d : Decoded) (w : WrongPair) → judged_of d ≡ Err w → d ≡ wrong w.fault w.place
judged_wrong (text t) w e = let z : ◌≡◌ {A = ℕ} 0 1 = cc in absurd (omega arith)
judged_wrong (wrong f p) w e =
    let same : ◌≡◌ {A = WrongPair} (record { fault = f; place = p }) w = cc in
    λ i. wrong (same i).fault (same i).place

pub judged_text : (d : Decoded) (count : ℕ) → judged_of d ≡ Ok count → (d ≡ text (text_of d)) × (length (text_of d) ≡ count)
judged_text (text t) count e = (refl, cc)
judged_text (wrong f p) count e = let z : ◌≡◌ {A = ℕ} 0 1 = cc in absurd (omega arith)

-- a pair that carries characters
pub follow_good : (at : ℕ) (p : Result Pair Fault) (d : Decoded) → 0 < length (chars_of p) → follow at p d ≡ ahead (chars_of p) d
follow_good at (Ok (Three a b c)) d h = refl
follow_good at (Ok (Two a b)) d h = refl
follow_good at (Ok (One a)) d h = refl
follow_good at (Err fault) d h = absurd (omega arith)

pub none_by_length : (s : List ℕ) (n k : ℕ) → length s ≡ n - k → k ≤ n → none s ≡ eqb k n
none_by_length [] n k e h = sym (eq-eqb k n (omega arith))
none_by_length (x ∷ s) n k e h = sym (ne_eqb k n (λ f. omega arith))

-- one pair more, at a place; the end
module _ (s : List ℕ) (i : ℕ) where
  pub decode_pair : i + 2 ≤ length s
      → let p = pair_of the_chart (eqb (i + 2) (length s)) (get_or s i 0) (get_or s (i + 1) 0) in
      decode i (drop i s) ≡ follow i p (decode (i + 2) (drop (i + 2) s))
  unfolding decode
  decode_pair h =
      let next : i + 1 + 1 ≡ i + 2 = omega arith in
      let two : drop i s ≡ get_or s i 0 ∷ get_or s (i + 1) 0 ∷ drop (i + 2) s =
      at_place s i 0 (omega arith)
      ∙ ap (λ t. get_or s i 0 ∷ t) (at_place s (i + 1) 0 (omega arith) ∙ ap (λ k. get_or s (i + 1) 0 ∷ drop k s) next) in
      let last : none (drop (i + 2) s) ≡ eqb (i + 2) (length s) =
      none_by_length (drop (i + 2) s) (length s) (i + 2) (length-drop (i + 2) s) h in
      ap (decode i) two ∙ ap (λ l. follow i (pair_of the_chart l (get_or s i 0) (get_or s (i + 1) 0)) (decode (i + 2) (drop (i + 2) s))) last

  pub decode_end : length s ≤ i → decode i (drop i s) ≡ text []
  unfolding decode
  decode_end h = ap (decode i) (past_end s i h)

-- how far a reading has come: these characters stand before the place, and the rest is still to be decoded
abbrev pub Sofar : List ℕ → ℕ → List ℕ → Type 0
Sofar s i before = decode 0 s ≡ ahead before (decode i (drop i s))

pub sofar_start : (s : List ℕ) → Sofar s 0 []
sofar_start s = sym (ahead_nothing (decode 0 s))

-- before the last pair of bytes that decode as text: three characters more; at the last pair: the text is whole
pub record Inner (s : List ℕ) (i : ℕ) (before t : List ℕ) : Type 0 where
  pub three : length (chars_of (pair_of the_chart false (get_or s i 0) (get_or s (i + 1) 0))) ≡ 3
  pub room : length before + 3 ≤ length t
  pub next : Sofar s (i + 2) (before ++ chars_of (pair_of the_chart false (get_or s i 0) (get_or s (i + 1) 0)))

pub record Last (s : List ℕ) (i : ℕ) (before t : List ℕ) : Type 0 where
  pub some : 0 < length (chars_of (pair_of the_chart true (get_or s i 0) (get_or s (i + 1) 0)))
  pub room : length before + length (chars_of (pair_of the_chart true (get_or s i 0) (get_or s (i + 1) 0))) ≤ length t
  pub whole : t ≡ before ++ chars_of (pair_of the_chart true (get_or s i 0) (get_or s (i + 1) 0))

-- a pair's turn: on to the next place, or the answer
module _ (s : List ℕ) (i : ℕ) (before : List ℕ) (sofar : Sofar s i before) where
  module _ (h : i + 2 ≤ length s) (pair : Result Pair Fault) (e : pair ≡ pair_of the_chart (eqb (i + 2) (length s)) (get_or s i 0) (get_or s (i + 1) 0)) where
    turn : decode 0 s ≡ ahead before (follow i pair (decode (i + 2) (drop (i + 2) s)))
    turn = sofar ∙ ap (ahead before) (decode_pair s i h ∙ ap (λ p. follow i p (decode (i + 2) (drop (i + 2) s))) (sym e))

    pub sofar_more : 0 < length (chars_of pair) → Sofar s (i + 2) (before ++ chars_of pair)
    sofar_more good =
        turn ∙ ap (ahead before) (follow_good i pair (decode (i + 2) (drop (i + 2) s)) good)
        ∙ ahead_ahead before (chars_of pair) (decode (i + 2) (drop (i + 2) s))

    pub sofar_wrong : (fault : Fault) → pair ≡ Err fault → decode 0 s ≡ wrong fault i
    sofar_wrong fault bad = turn ∙ ap (λ p. ahead before (follow i p (decode (i + 2) (drop (i + 2) s)))) bad

    -- in bytes that decode as text the pair carries characters, and the text has them
    pub sofar_good : (t : List ℕ) → decode 0 s ≡ text t → (0 < length (chars_of pair)) × (length before + length (chars_of pair) ≤ length t)
    sofar_good t whole = by_pair pair some (λ fault bad. absurd (wrong_text (sofar_wrong fault bad) whole))
      where
        some : 0 < length (chars_of pair) → (0 < length (chars_of pair)) × (length before + length (chars_of pair) ≤ length t)
        some good =
            let p = chars_of pair in
            let u = ahead_text (before ++ p) (decode (i + 2) (drop (i + 2) s)) t (sym (sofar_more good) ∙ whole) in
            (good, omega (arith, length-append before p, length-append (before ++ p) u.0, ap length u.2))

  pub sofar_end : length s ≤ i → decode 0 s ≡ text before
  sofar_end h = sofar ∙ ap (ahead before) (decode_end s i h) ∙ ap text (append-nil before)

  module _ (t : List ℕ) (whole : decode 0 s ≡ text t) where
    pub sofar_inner : i + 2 < length s → Inner s i before t
    sofar_inner h =
        let p = pair_of the_chart false (get_or s i 0) (get_or s (i + 1) 0) in
        let inner : eqb (i + 2) (length s) ≡ false = ne_eqb (i + 2) (length s) (λ e. omega arith) in
        let is : p ≡ pair_of the_chart (eqb (i + 2) (length s)) (get_or s i 0) (get_or s (i + 1) 0) =
        ap (λ l. pair_of the_chart l (get_or s i 0) (get_or s (i + 1) 0)) (sym inner) in
        let good = sofar_good (omega arith) p is t whole in
        let three : length (chars_of p) ≡ 3 =
        ap (λ q. length (chars_of q)) (pair_full false (get_or s i 0) (get_or s (i + 1) 0) refl (chars_some p good.0)).2 in
        record { three = three; room = omega arith; next = sofar_more (omega arith) p is good.0 }

    pub sofar_last : i + 2 ≡ length s → Last s i before t
    sofar_last h =
        let p = pair_of the_chart true (get_or s i 0) (get_or s (i + 1) 0) in
        let last : eqb (i + 2) (length s) ≡ true = eq-eqb (i + 2) (length s) h in
        let is : p ≡ pair_of the_chart (eqb (i + 2) (length s)) (get_or s i 0) (get_or s (i + 1) 0) =
        ap (λ l. pair_of the_chart l (get_or s i 0) (get_or s (i + 1) 0)) (sym last) in
        let good = sofar_good (omega arith) p is t whole in
        let end : decode 0 s ≡ text (before ++ chars_of p) =
        sofar_more (omega arith) p is good.0 ∙ ap (ahead (before ++ chars_of p)) (decode_end s (i + 2) (omega arith))
        ∙ ap text (append-nil (before ++ chars_of p)) in
        record { some = good.0; room = good.1; whole = cc }
