pub mod Decimals
pub mod Texts
pub mod Digits
pub mod Samples
