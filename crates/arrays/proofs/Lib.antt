pub mod Shift
pub mod Close
pub mod Fronts
pub mod Searches
pub mod Chosen
pub mod Handing
