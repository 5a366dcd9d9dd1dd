pub mod Hash
pub mod Layout
pub mod Root
pub mod Target
