pub mod Again
pub mod FiveSizes
pub mod Entries
pub mod PlaceOfFive
pub mod Conditions
pub mod Frames
pub mod Walks
