pub mod Lent
pub mod Waited
