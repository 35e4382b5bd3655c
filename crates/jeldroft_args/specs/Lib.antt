pub mod Faults
pub mod Ranges
pub mod believed
pub mod Readings
