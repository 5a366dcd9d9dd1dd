pub mod Tables
pub mod GrantTables
pub mod OwnJobs
pub mod Admission
pub mod Headers
pub mod Conditions
pub mod Passing
