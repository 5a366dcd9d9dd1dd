pub mod Blocks
pub mod Conservation
pub mod Payouts
pub mod Placed
pub mod Summaries
pub mod Weights
