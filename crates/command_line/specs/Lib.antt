pub mod Ranges
pub mod Settings
pub mod Loading
pub mod believed
pub mod Pieces
pub mod Stops
pub mod Told
pub mod Words
