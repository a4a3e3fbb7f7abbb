pub mod Stacked
pub mod Used
pub mod Nearby
pub mod Steps
pub mod Opens
