-- Theorems on the module of this name in specs/, and an index.
pub mod Exact
pub mod Laws
pub mod Shortest
