-- What the contracts of `case_file` cite: building a line, what a line gives, what it says of a buffer, and what an answer tells.
-- Assumes nothing.
pub mod Line
pub mod Fill
pub mod Given
pub mod Tells
