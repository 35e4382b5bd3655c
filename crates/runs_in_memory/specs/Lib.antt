pub mod Accepted
pub mod CheckFiles
pub mod PictFiles
