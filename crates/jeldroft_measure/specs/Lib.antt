pub mod Due
pub mod believed
