pub mod Ends
pub mod Making
pub mod Modes
pub mod Promises
pub mod RowSources
pub mod Runs
pub mod Steps
pub mod Words
