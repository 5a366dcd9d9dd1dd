pub mod Bits
pub mod Climbing
pub mod Finding
pub mod Fullness
pub mod Holdings
pub mod Keys
pub mod Orders
pub mod Overlaps
