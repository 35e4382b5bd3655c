pub mod Answers
pub mod believed
pub mod Findings
pub mod Without
