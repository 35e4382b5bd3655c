pub mod Steps
pub mod believed
