-- Computed examples of the calls. What their contracts cite stands with the calls beneath and, of the structs, in `face` and `face_seals`.
-- Assumes nothing.
pub mod Pins
