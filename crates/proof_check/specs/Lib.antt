pub mod Faults
pub mod CheckSteps
pub mod Left
pub mod Laws
pub mod Checks
pub mod believed
