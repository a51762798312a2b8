-- What the contracts over the structs of whole seals cite: each struct, field by field; that nothing is lost; and computed examples.
-- Assumes nothing.
pub mod Face
pub mod Kept
pub mod Pins
