pub mod Append
pub mod Near
pub mod Slots
