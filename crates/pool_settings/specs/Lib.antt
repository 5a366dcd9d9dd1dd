pub mod Keys
pub mod Opened
pub mod Reading
