pub mod Deciding
pub mod Driving
pub mod Fronts
pub mod OneEnd
pub mod Pieces
pub mod Staying
