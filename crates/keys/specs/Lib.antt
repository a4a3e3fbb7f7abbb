pub mod Order
pub mod Orders
pub mod Laws
pub mod Shown
