pub mod Machine
pub mod Reading
pub mod Laws
pub mod Writing
pub mod believed
pub mod Trees
pub mod RuleText
