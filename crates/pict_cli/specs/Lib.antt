pub mod Options
pub mod Ranges
pub mod Ends
pub mod believed
pub mod Modes
pub mod Steps
