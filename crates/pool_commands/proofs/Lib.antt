pub mod Failing
pub mod Reasons
pub mod Kept
pub mod DurableReasons
pub mod Running
