pub mod Codes
pub mod Features
pub mod Flags
