pub mod Framing
pub mod Holding
pub mod Running
pub mod Stream
