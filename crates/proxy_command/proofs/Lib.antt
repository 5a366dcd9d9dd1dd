pub mod Upstreams
pub mod Causes
