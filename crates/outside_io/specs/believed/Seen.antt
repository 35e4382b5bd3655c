-- What a folder and a sink tell at one moment, and which of it a call leaves as it was. (This project's rule.)
use Rattle.std.specs.Prelude.{◌≡◌, ◌≢◌, ℕ, Bool, Option, List}
use Rattle.outside_io.specs.believed.Faults.{Rose}
use Rattle.outside_io.specs.believed.Files.{Files}

pub record FolderSeen : Type 0 where
  -- what each name holds, where that is told
  pub files : Files
  -- the faults of reads that count for each name
  pub read_faults : List ℕ → ℕ
  -- the faults of writes that count for each name
  pub write_faults : List ℕ → ℕ
  -- whether the next read of each name fails, where that is told
  pub read_fails : List ℕ → Option Bool
  -- whether the next write of so many bytes to each name fails, where that is told
  pub write_fails : List ℕ → ℕ → Option Bool

pub record SinkSeen : Type 0 where
  -- the bytes written, where they are told
  pub written : Option (List ℕ)
  -- how many more bytes fit, where that is told
  pub room : Option ℕ
  -- the faults so far
  pub faults : ℕ
  -- whether the last call that failed did so since the reader of the bytes had gone away
  pub gone : Bool

-- every name keeps what it holds, and stays told or untold
abbrev pub KeepsFiles : FolderSeen → FolderSeen → Type 0
KeepsFiles before after = (name : List ℕ) → after.files name ≡ before.files name

-- every name but this one keeps what it holds, and stays told or untold
abbrev pub KeepsOtherFiles : List ℕ → FolderSeen → FolderSeen → Type 0
KeepsOtherFiles written before after = (name : List ℕ) → name ≢ written → after.files name ≡ before.files name

-- no read failed: the count of each name stays
abbrev pub KeepsReadFaults : FolderSeen → FolderSeen → Type 0
KeepsReadFaults before after = (name : List ℕ) → after.read_faults name ≡ before.read_faults name

-- no write failed: the count of each name stays
abbrev pub KeepsWriteFaults : FolderSeen → FolderSeen → Type 0
KeepsWriteFaults before after = (name : List ℕ) → after.write_faults name ≡ before.write_faults name

-- the count of faults of reading this name rose
abbrev pub ReadFaultsRose : List ℕ → FolderSeen → FolderSeen → Type 0
ReadFaultsRose name before after = Rose (before.read_faults name) (after.read_faults name)

-- the count of faults of writing this name rose
abbrev pub WriteFaultsRose : List ℕ → FolderSeen → FolderSeen → Type 0
WriteFaultsRose name before after = Rose (before.write_faults name) (after.write_faults name)

-- the count of faults of the sink rose
abbrev pub PutFaultsRose : SinkSeen → SinkSeen → Type 0
PutFaultsRose before after = Rose before.faults after.faults
