pub mod GainLemmas
