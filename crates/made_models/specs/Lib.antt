pub mod MadeModel
pub mod believed
