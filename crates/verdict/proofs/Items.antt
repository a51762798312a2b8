-- Theorems on the module of this name in specs/, and an index.
pub mod Fields
pub mod FieldsSound
pub mod Laws
pub mod Sound
pub mod Wrong
