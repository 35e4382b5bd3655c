pub mod Csv
pub mod Forms
pub mod Json
pub mod Markdown
pub mod Tables
