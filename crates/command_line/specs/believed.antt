pub mod Loading
pub mod Pieces
pub mod Stops
pub mod Told
pub mod Words
