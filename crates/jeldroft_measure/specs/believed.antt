pub mod Due
pub mod MeasureText
