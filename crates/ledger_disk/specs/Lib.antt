pub mod Moments
pub mod Calls
pub mod Disks
pub mod Memory
pub mod MemoryDisks
pub mod Entries
pub mod Crashes
pub mod Steps
