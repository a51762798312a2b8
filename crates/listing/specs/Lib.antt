-- What the contracts of listing cite: the listing of a reading.
-- Assumes nothing.
pub mod Listed
pub mod Listing
pub mod Pins
pub mod Room
