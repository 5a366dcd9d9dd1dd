pub mod Attending
pub mod Counts
pub mod Lists
pub mod Given
pub mod Failed
pub mod Printed
