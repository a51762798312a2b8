pub mod Lines
pub mod Room
pub mod Pins
