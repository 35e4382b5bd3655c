pub mod TermExamples
pub mod FileExamples
pub mod Lists
pub mod Refusals
pub mod RuleLists
pub mod Soundness
pub mod Models
pub mod OneAnswer
