pub mod MarkLemmas
pub mod ClearLemmas
pub mod NextLemmas
pub mod FromLemmas
pub mod SetLemmas
