pub mod Characters
pub mod Signature
