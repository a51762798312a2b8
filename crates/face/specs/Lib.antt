-- What the contracts over the structs of the C face cite: each struct, field by field; that nothing is lost; and the step of the tables.
-- Assumes nothing.
pub mod Face
pub mod Kept
pub mod Told
