pub mod PlainSetup
pub mod Seen
