pub mod Chart
pub mod Pairs
pub mod Faults
