pub mod ByteString
pub mod Illegal
pub mod Parts
pub mod Pins
pub mod Seals
pub mod Sizes
pub mod Theorems
pub mod Zones
