pub mod Cells
pub mod Citing
pub mod Curving
pub mod Putting
