pub mod Rows
pub mod WorkedFrames
pub mod WorkedSteps
pub mod Streams
pub mod Deciding
