pub mod Responses
