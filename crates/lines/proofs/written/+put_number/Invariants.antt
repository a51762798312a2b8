-- `put_number` of `lines`, which calls itself, meets its contract. The measure is the number.
-- Assumes nothing.
use Rattle.lines.proofs.written.+put_number.Given as goal

abbrev pub decreases-put_number : goal.decreases-put_number
decreases-put_number l = l.n
