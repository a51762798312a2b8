pub mod Scan
pub mod OneToOne
