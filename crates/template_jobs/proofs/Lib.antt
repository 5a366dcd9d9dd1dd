mod Joined
mod Listed
mod Mapped
pub mod OwnCounted
mod Parts
mod Rising
mod Spans
mod Surplus
mod ToldMoves
