pub mod Joint
pub mod Lifts
pub mod Changes
pub mod Spilling
