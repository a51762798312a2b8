pub mod Rows
pub mod Left
pub mod Pins
