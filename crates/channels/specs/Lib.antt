pub mod ClassSettings
pub mod Cuts
pub mod Histories
pub mod Orders
pub mod Plans
pub mod Tables
