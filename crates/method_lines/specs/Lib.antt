pub mod MethodLines
pub mod EveryPair
