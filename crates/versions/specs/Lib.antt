pub mod Versions
pub mod Pins
pub mod OneToOne
