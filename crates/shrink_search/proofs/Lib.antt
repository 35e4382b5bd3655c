pub mod FewerLemmas
