pub mod Laws
pub mod believed
