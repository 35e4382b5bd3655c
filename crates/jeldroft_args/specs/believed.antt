pub mod Arguments
pub mod Names
pub mod Programs
pub mod Readings
pub mod Rules
pub mod Settings
