pub mod Lines
pub mod Speaking
pub mod Whole
pub mod Framing
pub mod Calls
pub mod Chained
pub mod Completing
