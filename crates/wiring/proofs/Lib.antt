pub mod Sets
pub mod Keeping
pub mod Within
pub mod Whole
pub mod Cells
pub mod Rows
pub mod Exported
pub mod Ruled
