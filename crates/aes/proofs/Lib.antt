pub mod Substitution
pub mod Xor
pub mod Columns
pub mod Schedule
pub mod Bounds
