pub mod WayLemmas
pub mod LevelLemmas
pub mod GainLemmas
pub mod RowLemmas
pub mod GrowLemmas
pub mod Leading
pub mod FindLaws
pub mod CycleLaws
pub mod NoOrder
pub mod BuildLemmas
pub mod PlacingLaws
pub mod SequenceLaws
pub mod CoverLaws
pub mod ReportLaws
pub mod AcceptedLaws
pub mod TextLemmas
mod Examples
