pub mod FeatureRows
pub mod Calls
pub mod Answer
pub mod Pins
pub mod Witnesses
