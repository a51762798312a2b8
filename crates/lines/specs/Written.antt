-- What a line that is being written gets: bytes more in the buffer that is lent for it, which stays the same buffer.
-- Assumes nothing.
pub mod Laws
use Rattle.std.specs.Prelude.{◌≡◌, ℕ, List, [], ◌∷◌, ◌++◌, length}
use Rattle.std.specs.Borrow.{MutBor}
use Rattle.lines.specs.Line.{Put}
use Rattle.lines.specs.declared.written.Line.{Line}

-- a line that starts at a place of a buffer
pub record Opens (out : MutBor (List ℕ)) (at : ℕ) (l : Line) : Type 0 where
  pub text : l.out.now ≡ out.now
  pub place : l.at ≡ at
  pub same : l.out.ghost_name ≡ out.ghost_name

-- these bytes more
pub record Puts (old : Line) (bytes : List ℕ) (new : Line) : Type 0 where
  pub put : Put old.out.now old.at bytes new.out.now new.at
  pub size : length new.out.now ≡ length old.out.now
  pub same : new.out.ghost_name ≡ old.out.ghost_name
