pub mod Accepting
pub mod Counting
