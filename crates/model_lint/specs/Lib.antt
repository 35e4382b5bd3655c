pub mod Changes
pub mod Seeking
pub mod Marks
pub mod Unused
pub mod believed
pub mod Tests
