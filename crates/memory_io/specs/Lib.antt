pub mod MemSink
pub mod MemFolder
pub mod FileLists
