mod Examples
pub mod Answering
pub mod Cuts
pub mod Joining
pub mod Keeping
pub mod Names
pub mod Readings
pub mod Refusing
pub mod RuledGroups
pub mod RuledParams
pub mod SoundGroups
pub mod SoundNames
pub mod SoundParams
pub mod SoundValues
pub mod Weights
pub mod WrittenParams
pub mod WrittenPieces
pub mod WrittenValues
