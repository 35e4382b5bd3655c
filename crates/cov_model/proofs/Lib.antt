pub mod SoundLemmas
pub mod TruthLemmas
pub mod CellLemmas
pub mod TupleLemmas
pub mod RowLemmas
pub mod PackedRowLemmas
pub mod KnownLemmas
pub mod FaultLemmas
pub mod SortLemmas
pub mod PreferenceLemmas
mod Examples
pub mod SampleSound
