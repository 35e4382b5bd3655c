pub mod Causes
pub mod Reading
pub mod Runs
pub mod Shorter
pub mod Told
