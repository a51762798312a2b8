-- Theorems on the module of this name in specs/, and an index.
pub mod Laws
