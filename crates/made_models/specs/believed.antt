pub mod MadeModel
pub mod Words
