pub mod Splits
pub mod Digits
pub mod Values
pub mod Buffers
pub mod Samples
