pub mod Gf
pub mod Aes
pub mod Columns
