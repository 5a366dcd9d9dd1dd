pub mod Machines
pub mod Views
pub mod Rule
pub mod Plays
pub mod Passes
pub mod Closing
pub mod Calling
pub mod Parts
