pub mod Grouping
pub mod More
pub mod Wholes
