pub mod ListLemmas
pub mod DigitLemmas
pub mod NumberLemmas
pub mod CharLemmas
pub mod LikeLemmas
pub mod StringLemmas
pub mod Laws
pub mod ByteLemmas
