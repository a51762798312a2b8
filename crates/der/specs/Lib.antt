pub mod Length
pub mod Element
pub mod Content
