pub mod SliceRows
pub mod believed
pub mod Covering
pub mod Diagnostics
pub mod Laws
pub mod RowReading
pub mod SuiteLaws
