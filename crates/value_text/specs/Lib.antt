pub mod formers
pub mod PatternParts
pub mod believed
