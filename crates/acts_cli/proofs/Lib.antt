pub mod Loading
pub mod RunEnds
