pub mod RowFiles
pub mod Told
pub mod Buffering
pub mod Turns
pub mod Lookups
pub mod RowLines
pub mod Readings
pub mod believed
