-- Laws of the look-up, for the functions that make it.
pub mod Laws
