pub mod Rawed
pub mod Short
