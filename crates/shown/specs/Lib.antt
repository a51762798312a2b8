pub mod Where
pub mod Found
pub mod Values
pub mod Pins
