pub mod believed
pub mod Sections
pub mod Tokens
