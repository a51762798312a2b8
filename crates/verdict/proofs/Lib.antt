pub mod Frames
pub mod Items
pub mod Judge
pub mod Report
