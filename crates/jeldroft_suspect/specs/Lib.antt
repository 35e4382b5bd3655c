pub mod Laws
pub mod Due
pub mod Results
pub mod believed
pub mod SuspectsText
