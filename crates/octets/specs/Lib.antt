pub mod Octets
pub mod Answer
pub mod Tabulate
