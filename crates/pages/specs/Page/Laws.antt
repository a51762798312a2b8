-- Laws of the page: the lines of a text one by one, and that a table's page has the table's words.
-- Assumes nothing.
use Rattle.std.specs.Prelude.{◌≡◌, refl, Bool, true, false, ℕ, suc, ◌+◌, ◌/◌, ◌%◌, ◌<◌, ◌≤◌, List, [], ◌∷◌, ◌++◌, eqb, length, get_or, drop}
use Rattle.std.proofs.Common.{sym, ◌∙◌, arith, eq-eqb, ne_eqb, eqb-true, length-append, length-drop}
use Rattle.std.proofs.Math.Path.{ap}
use Rattle.std.proofs.Math.ListN.{get_or-append}
use Rattle.std.proofs.Math.Seq.{get_or-append_seam}
use Rattle.std.specs.Bool.{MatchBool}
use Rattle.std.specs.List.{IsFirstMatchOrLen}
use Rattle.format.specs.Choice.{pick, both}
use Rattle.format.specs.Choice.Laws.{both_true, not_true}
use Rattle.lines.specs.Line.{ascii}
use Rattle.pages.specs.Rows.{Row, sought}
use Rattle.pages.specs.Page.{line_of, page_of, before, lines_of, code_of, among, line_for}

-- the lines of a text: after a newline, and after another byte
lines_newline : (x : ℕ) (s : List ℕ) → x ≡ 10 → lines_of (x ∷ s) ≡ [] ∷ lines_of s
unfolding lines_of
lines_newline x s e = ap (λ b. pick b ([] ∷ lines_of s) (before x (lines_of s))) (eq-eqb x 10 e)

lines_other : (x : ℕ) (s : List ℕ) → (x ≡ 10 → ⊥) → lines_of (x ∷ s) ≡ before x (lines_of s)
unfolding lines_of
lines_other x s h = ap (λ b. pick b ([] ∷ lines_of s) (before x (lines_of s))) (ne_eqb x 10 h)

-- among lines: the first is the code's, another is, and there is none
module _ (code : ℕ) (l : List ℕ) (ls : List (List ℕ)) where
  pub among_here : code ≡ code_of l → among code (l ∷ ls) ≡ drop 3 l
  unfolding among
  among_here e = ap (λ b. pick b (drop 3 l) (among code ls)) (eq-eqb code (code_of l) e)

  pub among_on : (code ≡ code_of l → ⊥) → among code (l ∷ ls) ≡ among code ls
  unfolding among
  among_on h = ap (λ b. pick b (drop 3 l) (among code ls)) (ne_eqb code (code_of l) h)

among_none : (code : ℕ) → among code [] ≡ []
unfolding among
among_none code = refl

none_left : (code : ℕ) (s : List ℕ) → length s ≡ 0 → line_for code s ≡ []
unfolding lines_of among
none_left code [] e = refl
none_left code (x ∷ s) e = absurd (omega arith)

-- where the page ends, no line was the code's
pub at_end : (s : List ℕ) (code at : ℕ) → length s ≤ at → line_for code (drop at s) ≡ []
at_end s code at h = none_left code (drop at s) (length-drop at s ∙ omega arith)

-- tests that the checker computes: no newline among these bytes, or among the words of these rows
abbrev pub plain : List ℕ → Bool
plain [] = true
plain (x ∷ w) = pick (eqb x 10) false (plain w)

abbrev pub plain_rows : List Row → Bool
plain_rows [] = true
plain_rows (r ∷ rows) = both (plain (ascii r.words)) (plain_rows rows)

one_more :
    (b p : Bool) (x : ℕ) (ls ms : List (List ℕ)) (w : List ℕ) →
    pick b false p ≡ true →
    (p ≡ true → ls ≡ w ∷ ms) →
    pick b ([] ∷ ls) (before x ls) ≡ (x ∷ w) ∷ ms
one_more true p x ls ms w e f = absurd (not_true e)
one_more false p x ls ms w e f = ap (before x) (f e)

lines_words : (w t : List ℕ) → plain w ≡ true → lines_of (w ++ 10 ∷ t) ≡ w ∷ lines_of t
unfolding lines_of
lines_words [] t e = refl
lines_words (x ∷ w) t e =
    one_more (eqb x 10) (plain w) x (lines_of (w ++ 10 ∷ t)) (lines_of t) w e (λ p. lines_words w t p)

-- the last line, which no newline ends
one_last : (b : Bool) (x : ℕ) → pick b false true ≡ true → pick b ([] ∷ []) ((x ∷ []) ∷ []) ≡ (x ∷ []) ∷ []
one_last true x e = absurd (not_true e)
one_last false x e = refl

lines_last : (x : ℕ) (w : List ℕ) → plain (x ∷ w) ≡ true → lines_of (x ∷ w) ≡ (x ∷ w) ∷ []
unfolding lines_of
lines_last x [] e = one_last (eqb x 10) x e
lines_last x (y ∷ w) e = one_more (eqb x 10) (plain (y ∷ w)) x (lines_of (y ∷ w)) [] (y ∷ w) e (λ p. lines_last y w p)

either_none : (b : Bool) → [] ≡ pick {A = List ℕ} b [] []
either_none true = refl
either_none false = refl

among_last : (code : ℕ) (w : List ℕ) → plain w ≡ true → line_for code w ≡ among code (w ∷ [])
unfolding lines_of among
among_last code [] e = either_none (eqb code 0)
among_last code (x ∷ w) e = ap (among code) (lines_last x w e)

among_then : (code : ℕ) (w t : List ℕ) → plain w ≡ true → line_for code (w ++ 10 ∷ t) ≡ among code (w ∷ lines_of t)
among_then code w t e = ap (among code) (lines_words w t e)

-- no byte of the text is a newline
plain_all : (w : List ℕ) → ((k : ℕ) → k < length w → eqb (get_or w k 0) 10 ≡ false) → plain w ≡ true
plain_all [] f = refl
plain_all (x ∷ w) f = ap (λ b. pick b false (plain w)) (f 0 (omega arith)) ∙ plain_all w (λ k h. f (suc k) (omega arith))

-- the text is cut at its first newline, or is the last line: the line is the code's, or the search goes on after it
pub record Turn (s line rest : List ℕ) (last : Bool) (code : ℕ) : Type 0 where
  pub found : code ≡ code_of line → line_for code s ≡ drop 3 line
  pub passed : (code ≡ code_of line → ⊥) → MatchBool last (line_for code s ≡ []) (line_for code s ≡ line_for code rest)

pub turn :
    (s line rest : List ℕ) (last : Bool) (code : ℕ) →
    MatchBool last (s ≡ line) ((y : ℕ) × (s ≡ line ++ (y ∷ rest))) →
    IsFirstMatchOrLen (λ y. eqb y 10) s (length line) →
    Turn s line rest last code
turn s line rest true code e f =
    let p : plain line ≡ true = plain_all line (λ k h. ap (λ t. eqb (get_or t k 0) 10) (sym e) ∙ f.0 k 0 (omega arith) h) in
    let l : line_for code s ≡ among code (line ∷ []) = ap (line_for code) e ∙ among_last code line p in
    record { found = λ y. l ∙ among_here code line [] y; passed = λ n. l ∙ among_on code line [] n ∙ among_none code }
turn s line rest false code (y, e) f =
    let p : plain line ≡ true =
    plain_all line (λ k h. ap (λ b. eqb b 10) (sym (get_or-append line (y ∷ rest) 0 k h) ∙ ap (λ t. get_or t k 0) (sym e)) ∙ f.0 k 0 (omega arith) h) in
    let long : length s ≡ length line + suc (length rest) = ap length e ∙ length-append line (y ∷ rest) in
    let there : get_or s (length line) 0 ≡ y = ap (λ t. get_or t (length line) 0) e ∙ get_or-append_seam line y rest 0 in
    let ten : y ≡ 10 = sym there ∙ eqb-true _ 10 (f.1 (omega arith) 0) in
    let l : line_for code s ≡ among code (line ∷ lines_of rest) = ap (line_for code) (e ∙ ap (λ b. line ++ (b ∷ rest)) ten) ∙ among_then code line rest p in
    record { found = λ z. l ∙ among_here code line (lines_of rest) z; passed = λ n. l ∙ among_on code line (lines_of rest) n }

-- a row's line and the lines after it
lines_row :
    (r : Row) (t : List ℕ) →
    plain (ascii r.words) ≡ true →
    lines_of (line_of r t) ≡ ((48 + r.number / 10) ∷ (48 + r.number % 10) ∷ 32 ∷ ascii r.words) ∷ lines_of t
lines_row r t p =
    let w = ascii r.words in
    let a = lines_other (48 + r.number / 10) ((48 + r.number % 10) ∷ 32 ∷ (w ++ 10 ∷ t)) (λ e. absurd (omega arith)) in
    let b = lines_other (48 + r.number % 10) (32 ∷ (w ++ 10 ∷ t)) (λ e. absurd (omega arith)) in
    let c = lines_other 32 (w ++ 10 ∷ t) (λ e. absurd (omega arith)) in
    a ∙ ap (before (48 + r.number / 10)) (b ∙ ap (before (48 + r.number % 10)) (c ∙ ap (before 32) (lines_words w t p)))

-- what is found in a table's page is what is sought in the table
pub found_in : (code : ℕ) (rows : List Row) → plain_rows rows ≡ true → line_for code (page_of rows) ≡ sought code rows
unfolding page_of sought lines_of among
found_in code [] e = refl
found_in code (r ∷ rows) e =
    let p = both_true (plain (ascii r.words)) (plain_rows rows) e in
    let ih = found_in code rows p.1 in
    let d1 = 48 + r.number / 10 in
    let d2 = 48 + r.number % 10 in
    let said : code_of (d1 ∷ d2 ∷ 32 ∷ ascii r.words) ≡ r.number = omega arith in
    ap (among code) (lines_row r (page_of rows) p.0)
    ∙ ap (λ n. pick (eqb code n) (ascii r.words) (line_for code (page_of rows))) said
    ∙ ap (pick (eqb code r.number) (ascii r.words)) ih
