pub mod Crypto
