pub mod Answers
pub mod Buffer
pub mod Cut
pub mod Hex
