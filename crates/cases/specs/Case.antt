-- A case that is to be proved: what a call's definition gives, and what the document says it is.
-- Assumes nothing.
use Rattle.format.specs.Answers.{Outcome}

pub record Case : Type 0 where
  pub found : Outcome
  pub expected : Outcome
