pub mod Asking
pub mod Counting
pub mod Listing
pub mod Places
pub mod Failing
