pub mod Kinds
pub mod Linting
pub mod Remarks
pub mod Texts
