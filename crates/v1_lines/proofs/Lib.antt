pub mod Places
pub mod Held
pub mod Streams
pub mod Digits
pub mod Floats
pub mod Values
