pub mod SealSize
