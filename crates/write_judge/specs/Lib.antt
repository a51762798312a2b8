-- What the contract of the judging cites: what the writer answers, what its steps stand on, the size of a seal, and answers told apart.
-- Assumes nothing.
pub mod Calls
pub mod Second
pub mod Needs
pub mod Size
pub mod OneToOne
