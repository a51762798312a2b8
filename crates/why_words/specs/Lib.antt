-- What the contracts of why_words cite: the names of the items, the words of the rules, and what the calls answer.
-- Assumes nothing.
pub mod Names
pub mod Calls
pub mod OneToOne
