pub mod Days
pub mod Calls
pub mod Pins
pub mod OneToOne
