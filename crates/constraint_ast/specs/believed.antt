pub mod Grammar
pub mod Lexing
pub mod Trees
pub mod RuleText
