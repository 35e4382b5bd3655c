pub mod Ending
pub mod Explaining
pub mod Told
pub mod Tokens
