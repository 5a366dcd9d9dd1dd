pub mod Doors
pub mod MemoryDoors
pub mod MemoryLinks
pub mod MemoryNetworks
pub mod Networks
pub mod Seen
pub mod Worlds
