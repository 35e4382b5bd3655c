pub mod ReadSteps
mod Examples
