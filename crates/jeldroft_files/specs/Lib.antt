pub mod ReadBack
pub mod Tabbing
pub mod believed
pub mod Runs
pub mod Tables
