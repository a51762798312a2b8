pub mod Integer
pub mod OneElement
pub mod Calls
pub mod Pins
