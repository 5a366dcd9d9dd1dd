pub mod Leading
pub mod Numbers
pub mod Places
pub mod Targets
