pub mod Drawing
pub mod Lengths
mod Examples
