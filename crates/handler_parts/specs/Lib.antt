pub mod Outcomes
pub mod Inputs
pub mod Keys
