pub mod Like
pub mod Numbers
pub mod Texts
