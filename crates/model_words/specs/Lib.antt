pub mod Laws
pub mod Rising
pub mod Seen
pub mod believed
