pub mod Calls
pub mod Decode
pub mod Exact
pub mod Refused
pub mod Wrong
