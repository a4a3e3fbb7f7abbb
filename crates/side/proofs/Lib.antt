pub mod Live
pub mod Finds
pub mod Steps
