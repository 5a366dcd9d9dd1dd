mod BlockRows
mod Fixed
mod LaneFacts
mod Majority
pub mod Whole
mod Words
