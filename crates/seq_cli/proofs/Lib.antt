pub mod Stopping
pub mod CommandLemmas
pub mod RunEnds
pub mod Causes
