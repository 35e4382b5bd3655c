pub mod Codes
pub mod SoundCodes
