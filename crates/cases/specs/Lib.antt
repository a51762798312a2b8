pub mod Case
pub mod C40
pub mod Numbers
pub mod Signatures
pub mod Seals
pub mod Cases
