-- Bytes put down through a line, one after the other.
-- Assumes nothing.
use Rattle.std.specs.Prelude.{◌≡◌, refl, ℕ, ◌+◌, ◌<◌, List, [], ◌∷◌, ◌++◌, length, get_or, take}
use Rattle.std.proofs.Common.{sym, ◌∙◌, add-one, take-suc}
use Rattle.std.specs.Borrow.{MutBor}
use Rattle.lines.specs.Line.{Put}
use Rattle.lines.specs.Line.Laws.{put_none, put_more}
use Rattle.lines.specs.declared.written.Line.{Line}
use Rattle.lines.specs.Written.{Opens, Puts}

pub puts_none : (l : Line) → Puts l [] l
puts_none l = record { put = put_none l.out.now l.at; size = refl; same = refl }

-- some bytes, and then others
pub puts_more : (a b c : Line) (s t : List ℕ) → Puts a s b → Puts b t c → Puts a (s ++ t) c
puts_more a b c s t p q =
    record {
      put = put_more a.out.now a.at s b.out.now b.at t c.out.now c.at p.put p.size q.put;
      size = q.size ∙ p.size;
      same = q.same ∙ p.same;
    }

-- a turn of the loop that puts down a text
pub puts_turn : (s : List ℕ) (i : ℕ) → i < length s → (a b c : Line) → Puts a (take i s) b → Puts b (get_or s i 0 ∷ []) c → Puts a (take (i + 1) s) c
puts_turn s i here a b c p q = rw (add-one, take-suc s i 0) (puts_more a b c (take i s) (get_or s i 0 ∷ []) p q)

-- what is put down in a buffer through a line that starts at a place of it
pub put_through : (out : MutBor (List ℕ)) (at : ℕ) (a b : Line) (s new : List ℕ) (r : ℕ) → Opens out at a → Puts a s b
    → b.out.now ≡ new → b.at ≡ r → Put out.now at s new r
put_through out at a b s new r o p e f = rw (sym o.text, sym o.place, sym e, sym f) p.put
