pub mod Header
pub mod Days
pub mod Pairs
