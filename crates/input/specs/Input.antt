-- What standard input gave: so many bytes at the start of a buffer, or nothing, where a read failed.
-- Assumes nothing.
use Rattle.std.specs.Prelude.{◌≡◌, ◌≢◌, ◌≤◌, List, ℕ, length, take, Result, Ok, Err}
use Rattle.input.specs.declared.Unread.{Unread}
use Rattle.input.specs.declared.Fault.{Fault}
use Rattle.input.specs.declared.Fault.TheVariants.{Output}

-- so many bytes stand at the start of a buffer: it has as many, and its first n are n
abbrev pub IsPrefixLen : ℕ → List ℕ → Type 0
IsPrefixLen n xs = (n ≤ length xs) × (n ≡ length (take n xs))

abbrev pub Given : Result ℕ Unread → List ℕ → Type 0
Given (Ok n) buffer = IsPrefixLen n buffer
Given (Err _) buffer = Unit

-- what a source gave: those bytes, or where a read failed those before it
abbrev pub Filled : Result ℕ Unread → List ℕ → Type 0
Filled (Ok n) buffer = IsPrefixLen n buffer
Filled (Err unread) buffer = IsPrefixLen unread.count buffer

-- what a program took: those bytes, or none, and then it was not the output that failed
abbrev pub Taken : Result ℕ Fault → List ℕ → Type 0
Taken (Ok n) buffer = IsPrefixLen n buffer
Taken (Err fault) buffer = fault ≢ Output
