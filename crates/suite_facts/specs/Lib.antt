pub mod Marked
pub mod Coverages
pub mod believed
pub mod Facts
