pub mod Partners
pub mod Talks
pub mod Waits
