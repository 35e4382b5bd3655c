pub mod WordSteps
pub mod RunSteps
pub mod Runs
pub mod believed
pub mod Words
