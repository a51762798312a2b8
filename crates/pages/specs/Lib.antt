-- What the contracts of pages cite: tables of words, the page of text that the code holds of one, and what putting words down answers.
-- Assumes nothing.
pub mod Rows
pub mod Page
pub mod Calls
pub mod OneToOne
