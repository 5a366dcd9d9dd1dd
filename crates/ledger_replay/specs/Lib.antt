pub mod Kept
pub mod Rights
pub mod Openings
pub mod Shares
pub mod Replays
