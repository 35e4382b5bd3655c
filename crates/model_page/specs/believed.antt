pub mod Curves
pub mod Omitted
pub mod Pages
pub mod Tests
