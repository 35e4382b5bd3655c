pub mod Constraints
pub mod Explanations
pub mod Words
