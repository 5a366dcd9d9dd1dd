pub mod Holding
pub mod Judged
pub mod Taken
pub mod Cut
