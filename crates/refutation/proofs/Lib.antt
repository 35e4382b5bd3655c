pub mod FileLemmas
pub mod HolderLemmas
pub mod LeafLemmas
pub mod LineLemmas
pub mod PairLemmas
pub mod ReadingLemmas
pub mod TreeLemmas
pub mod WordLemmas
