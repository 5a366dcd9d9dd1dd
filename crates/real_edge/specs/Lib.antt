pub mod Connections
pub mod Edges
pub mod Incoming
