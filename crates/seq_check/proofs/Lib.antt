pub mod SetLemmas
pub mod Counting
pub mod OnesLemmas
pub mod NameLemmas
pub mod ReadingSteps
pub mod PlaceLemmas
pub mod ListSteps
pub mod OpenLemmas
pub mod FindLemmas
pub mod StepLemmas
pub mod CheckSteps
mod Examples
