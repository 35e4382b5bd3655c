pub mod Steps
pub mod believed
pub mod Due
pub mod Numbers
pub mod Runs
