pub mod Ending
pub mod InOrder
pub mod ReadBack
pub mod Reading
pub mod TabbedLength
pub mod TabbedSteps
pub mod Statuses
