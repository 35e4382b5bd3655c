pub mod Constraints
pub mod Tests
