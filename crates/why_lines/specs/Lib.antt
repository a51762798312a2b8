-- What the contracts of why_lines cite: the text that tells why a seal is refused.
-- Assumes nothing.
pub mod Lines
pub mod Pins
