pub mod Rules
pub mod Layout
pub mod Reason
pub mod Pins
