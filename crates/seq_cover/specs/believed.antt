pub mod Covering
pub mod OrderGrowth
pub mod ReportText
pub mod Ways
