pub mod CellLemmas
pub mod FoundLemmas
pub mod OrderLemmas
pub mod RanLemmas
pub mod ResultLemmas
pub mod SuspectedLemmas
