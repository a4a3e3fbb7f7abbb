pub mod Windows
pub mod Cells
