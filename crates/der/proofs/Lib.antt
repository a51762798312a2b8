pub mod Elements
pub mod Lengths
