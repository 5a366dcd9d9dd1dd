pub mod Puts
pub mod Stepping
pub mod TakingLemmas
