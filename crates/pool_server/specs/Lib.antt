pub mod Calling
pub mod Shifts
pub mod Visits
pub mod Counting
pub mod Parts
pub mod Tending
pub mod Serving
pub mod Ending
