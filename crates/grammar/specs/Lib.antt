pub mod Content
pub mod Publish
pub mod Legal
pub mod Examples
