mod ProgramLemmas
mod SimpleProgram
mod ListLemmas
mod NameLemmas
mod ReadLemmas
pub mod RangeLemmas
