pub mod Put
pub mod Together
pub mod PutNames
pub mod Pins
pub mod Legal
pub mod Theorems
pub mod Witnesses
