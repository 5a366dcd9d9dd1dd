pub mod Members
pub mod Between
