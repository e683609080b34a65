pub mod Bond
