-- Theorems on specs/Element.antt, and an index.
pub mod Exact
