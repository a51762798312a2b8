pub mod Found
pub mod Theorems
pub mod Values
pub mod LookUp
