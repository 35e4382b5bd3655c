mod SlotLemmas
mod FileListLemmas
