pub mod SuiteRows
pub mod SetFigures
pub mod Asking
