pub mod Steps
pub mod Short
pub mod Rows
pub mod Pins
