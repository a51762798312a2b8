pub mod Given
pub mod Tests
pub mod Pins
