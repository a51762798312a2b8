pub mod Exact
pub mod OneToOne
