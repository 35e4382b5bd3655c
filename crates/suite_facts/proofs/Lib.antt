pub mod CountLemmas
pub mod CurveLemmas
pub mod RoundLemmas
