pub mod Faults
pub mod believed
pub mod Puts
