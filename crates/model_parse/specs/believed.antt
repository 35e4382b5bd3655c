pub mod GroupLines
pub mod ParamLines
pub mod Pieces
pub mod RawModels
pub mod Rules
pub mod Values
pub mod Written
