pub mod Runs
pub mod Sequences
