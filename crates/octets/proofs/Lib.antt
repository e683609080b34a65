pub mod Lists
pub mod Parts
pub mod Bytes
pub mod Octets
pub mod Table
