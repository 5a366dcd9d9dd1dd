pub mod Frames
pub mod Listed
pub mod Verdicts
mod Alike
pub mod Answering
pub mod Keeping
pub mod Sharing
pub mod Streaming
