pub mod Seats
pub mod Facts
pub mod Steps
pub mod Served
pub mod Digits
pub mod OpenSets
pub mod TestColumns
pub mod Adding
