-- What the contracts of hex_bytes cite: bytes as they are shown.
-- Assumes nothing.
pub mod Shown
pub mod Pins
