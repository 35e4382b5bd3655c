pub mod Lost
pub mod Steps
pub mod believed
