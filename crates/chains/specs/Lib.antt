pub mod Cells
pub mod Orders
pub mod Shape
