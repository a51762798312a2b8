pub mod Fields
pub mod Goes
pub mod Head
pub mod Lengths
pub mod Reading
pub mod Walk
