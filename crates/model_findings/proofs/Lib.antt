pub mod FullAnswers
pub mod SoundTerms
pub mod Telling
pub mod LeftOut
