pub mod Cutting
pub mod Feeding
pub mod Fronts
pub mod Handing
pub mod Progress
pub mod Standing
pub mod Streams
