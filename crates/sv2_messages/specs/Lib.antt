pub mod Messages
pub mod Reading
pub mod Tables
pub mod Writing
