mod Ahead
mod Rows
