pub mod Meaning
pub mod OneToOne
