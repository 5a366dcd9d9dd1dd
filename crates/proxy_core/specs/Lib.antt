pub mod Codes
pub mod Reading
pub mod Telling
pub mod Verdicts
pub mod Waiting
