pub mod Climbs
pub mod HeldLeads
pub mod Paths
pub mod Rows
pub mod Spaces
pub mod Trees
