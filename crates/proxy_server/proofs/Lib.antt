pub mod Hearing
pub mod Leading
pub mod Uplinks
pub mod Attended
pub mod Calls
pub mod Noted
pub mod Reached
mod Crossing
pub mod Rows
pub mod Whole
