-- Theorems on the module of this name in specs/, and an index.
pub mod Complete
pub mod Features
pub mod HeaderSound
pub mod Seals
pub mod Sound
