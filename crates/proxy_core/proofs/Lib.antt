pub mod Callers
pub mod Heard
pub mod Held
pub mod Leads
pub mod Messages
pub mod Openings
pub mod Rising
pub mod Runs
