-- Theorems on specs/Length.antt, and an index.
pub mod Exact
pub mod Laws
pub mod Written
