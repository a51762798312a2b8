-- What the contracts of list_lines cite: a line of the listing.
-- Assumes nothing.
pub mod ListLine
pub mod Pins
pub mod LineSize
