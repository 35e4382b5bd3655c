pub mod Laws
pub mod Seen
pub mod Document
pub mod believed
pub mod LeftOut
pub mod Sections
pub mod TestsTable
