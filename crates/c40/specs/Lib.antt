pub mod Text
pub mod Decode
pub mod Calls
pub mod OneToOne
pub mod Pins
