-- What the contracts of words cite: the words of the numbers, and what the call answers.
-- Assumes nothing.
pub mod Words
pub mod Calls
pub mod OneToOne
