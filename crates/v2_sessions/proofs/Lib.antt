pub mod Fitting
mod Reading
pub mod Declaring
pub mod Asked
pub mod Openings
pub mod Chains
pub mod Counted
pub mod Good
pub mod Moves
pub mod Parts
pub mod Turns
pub mod Quiet
pub mod Rows
pub mod Entering
pub mod Filling
pub mod Rising
pub mod Standing
pub mod Whole
