pub mod Pieces
pub mod Sizes
pub mod Back
pub mod Places
pub mod Round
