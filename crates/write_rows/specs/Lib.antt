-- What the contracts over the rows that are written cite: the tests, what a turn of the judging says, and computed examples.
-- Assumes nothing.
pub mod Tests
pub mod Table
pub mod Pins
