pub mod Reading
pub mod SeedLemmas
pub mod Steps
pub mod Since
pub mod Runs
pub mod Headline
pub mod Told
