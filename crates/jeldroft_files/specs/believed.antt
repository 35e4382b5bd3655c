pub mod Failures
pub mod Models
pub mod Runs
pub mod Tables
