pub mod Cells
pub mod Handed
