pub mod Exact
pub mod Header
