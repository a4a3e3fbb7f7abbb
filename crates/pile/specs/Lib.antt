pub mod Homes
pub mod Piles
