pub mod Crashes
mod Rooms
mod LeftBehind
mod Adding
mod Becoming
mod Closing
mod Counting
mod EntriesRead
mod Finding
mod Fresh
mod Making
mod Moments
mod Putting
mod Shutting
mod Telling
