pub mod Counting
pub mod Fours
pub mod Headers
pub mod Numbered
pub mod Shares
