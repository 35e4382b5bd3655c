pub mod Steps
pub mod Runs
pub mod believed
pub mod Stops
