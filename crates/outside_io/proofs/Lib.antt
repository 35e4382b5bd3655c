pub mod PutsLaws
pub mod FaultsLaws
pub mod PieceLemmas
