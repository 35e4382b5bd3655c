mod FirstLemmas
mod NumberLemmas
mod ContainLemmas
mod ServedLemmas
mod WithinLemmas
pub mod ShrunkLemmas
mod LeastLemmas
