pub mod Codes
pub mod EventFile
pub mod Events
pub mod OrderReport
pub mod Orders
pub mod Verdicts
