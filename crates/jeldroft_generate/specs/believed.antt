pub mod Asked
pub mod Due
pub mod Given
pub mod Runs
pub mod Told
