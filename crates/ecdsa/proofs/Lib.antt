pub mod Exact
pub mod OneToOne
pub mod Strict
