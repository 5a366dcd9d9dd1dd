pub mod Fitting
pub mod Steps
pub mod Counted
pub mod Good
pub mod Loaded
