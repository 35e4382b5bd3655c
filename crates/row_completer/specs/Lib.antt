pub mod SliceValues
