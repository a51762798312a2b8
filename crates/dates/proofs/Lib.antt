pub mod Days
pub mod Exact
