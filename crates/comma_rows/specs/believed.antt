pub mod Actions
pub mod Positions
pub mod Reading
