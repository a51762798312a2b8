pub mod Front
pub mod Room
