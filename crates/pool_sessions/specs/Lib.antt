pub mod Courses
pub mod Calling
pub mod Solo
