pub mod Capabilities
pub mod Types
