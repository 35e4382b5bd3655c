pub mod Making
pub mod Spelling
pub mod Tables
pub mod Tabbed
