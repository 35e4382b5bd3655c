pub mod Verdicts
pub mod OneVerdict
pub mod Ending
