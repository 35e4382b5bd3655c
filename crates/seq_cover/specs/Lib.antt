pub mod Sets
pub mod Growing
pub mod Building
pub mod Covering
pub mod believed
pub mod ReportText
