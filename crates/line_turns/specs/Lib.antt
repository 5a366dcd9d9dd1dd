pub mod Hearing
pub mod Listening
