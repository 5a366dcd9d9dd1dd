pub mod Calls
pub mod Counts
pub mod Lists
pub mod Results
pub mod Standing
