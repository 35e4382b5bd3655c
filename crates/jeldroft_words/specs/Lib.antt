pub mod believed
