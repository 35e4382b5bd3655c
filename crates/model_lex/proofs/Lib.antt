pub mod Cutting
pub mod Forms
mod LineExamples
pub mod OrderMark
pub mod Opening
pub mod Quoting
pub mod Runs
pub mod Splitting
mod TokenExamples
