pub mod Sorted
pub mod Entries
pub mod Changes
