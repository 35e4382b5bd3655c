pub mod Comparisons
pub mod Findings
pub mod Terms
