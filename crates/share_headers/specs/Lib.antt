pub mod Roots
pub mod Submitted
pub mod Ahead
pub mod Foreseeing
