pub mod Causes
pub mod Pins
