pub mod Document
pub mod LeftOut
pub mod Pictures
pub mod Sections
pub mod TestsTable
pub mod Verdicts
