pub mod Findings
pub mod Reading
pub mod believed
pub mod Constraints
pub mod SameModels
