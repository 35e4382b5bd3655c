pub mod Mapped
pub mod Reading
pub mod Tags
pub mod TreeTexts
