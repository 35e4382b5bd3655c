pub mod Checking
pub mod HeldTokens
pub mod Holders
pub mod Lines
pub mod Reading
pub mod Repeats
pub mod Proofs
pub mod believed
