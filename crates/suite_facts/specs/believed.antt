pub mod Coverages
pub mod Facts
