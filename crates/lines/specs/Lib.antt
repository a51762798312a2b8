-- What the contracts of lines cite: text put into a buffer.
-- Assumes nothing.
pub mod Line
pub mod Written
pub mod OneToOne
