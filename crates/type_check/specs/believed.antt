pub mod Checking
pub mod Constraints
pub mod ModelOf
