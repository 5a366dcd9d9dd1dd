pub mod Asked
pub mod Attending
pub mod Calls
pub mod Completing
pub mod Counts
pub mod Crossing
pub mod Rows
pub mod Whole
