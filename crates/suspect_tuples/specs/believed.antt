pub mod ResultReading
pub mod Suspects
pub mod SuspectsText
