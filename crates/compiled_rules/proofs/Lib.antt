pub mod CodeLemmas
pub mod SoundLemmas
pub mod TermLemmas
pub mod PairLemmas
pub mod ListLemmas
pub mod Ranks
