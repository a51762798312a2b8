pub mod Face
pub mod Pins
