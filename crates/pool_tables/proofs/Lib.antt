mod Following
mod Holding
mod Showing
pub mod RefusedJobs
mod Admitting
mod Found
mod Kept
pub mod Ranges
mod Shown
