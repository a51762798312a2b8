pub mod Signature
pub mod FormSize
pub mod Strict
pub mod Calls
