pub mod Mining
pub mod Row
pub mod Callers
pub mod Feeding
pub mod Opened
pub mod FeedRow
pub mod Serving
