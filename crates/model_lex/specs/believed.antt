pub mod Blanks
pub mod Codes
pub mod Lines
pub mod Sections
pub mod Tokens
