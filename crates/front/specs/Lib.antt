pub mod Front
pub mod Items
