pub mod Holding
pub mod Lines
pub mod Reading
pub mod Errors
pub mod HexNumbers
pub mod Jobs
pub mod Replies
pub mod Requests
