pub mod FileTexts
pub mod LineLemmas
pub mod ListLemmas
pub mod SpellingLemmas
