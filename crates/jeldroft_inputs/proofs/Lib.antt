pub mod Calling
pub mod InputLemmas
