pub mod Reading
pub mod Cutting
pub mod Bounds
