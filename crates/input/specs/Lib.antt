-- What the contracts of input cite.
-- Assumes nothing.
pub mod Input
