pub mod Certified
pub mod Due
pub mod Pages
pub mod Shows
pub mod Words
