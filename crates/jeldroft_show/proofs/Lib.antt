pub mod CertifiedLemmas
pub mod DueLemmas
pub mod OmissionLemmas
pub mod RowLemmas
pub mod ShowEnds
pub mod WordLemmas
pub mod PageLemmas
