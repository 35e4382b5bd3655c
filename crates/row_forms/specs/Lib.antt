pub mod Seen
pub mod Laws
pub mod believed
pub mod Json
pub mod Markdown
