pub mod Meaning
pub mod Places
pub mod Signature
pub mod Lengths
