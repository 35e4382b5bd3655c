pub mod Faults
pub mod Files
pub mod Puts
pub mod Seen
