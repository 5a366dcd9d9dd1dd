pub mod HeldJobs
pub mod Lists
pub mod Owners
pub mod Plans
pub mod Refusals
pub mod Spans
pub mod Tables
pub mod Told
