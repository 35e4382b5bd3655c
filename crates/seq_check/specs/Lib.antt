pub mod Reading
pub mod EventSets
pub mod Checking
pub mod believed
