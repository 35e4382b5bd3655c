pub mod Rows
pub mod Taking
pub mod believed
pub mod Reading
