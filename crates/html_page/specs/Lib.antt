pub mod Tokens
pub mod Seen
pub mod Laws
pub mod believed
pub mod Trees
