pub mod Due
pub mod Results
pub mod SuspectsText
