pub mod Linting
pub mod Texts
pub mod believed
