pub mod Answering
pub mod Defects
pub mod Lists
pub mod Joined
pub mod Numbers
pub mod Readable
pub mod Steps
