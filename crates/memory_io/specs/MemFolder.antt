-- A folder in memory. (This project's rule.)
use Rattle.std.specs.Prelude.{◌≡◌, ℕ, Bool, false, ◌||◌, not, Option, Some, List, find, is_none, nat_eq, nat_le, if◌then◌else◌}
use Rattle.std.specs.List.{list_any}
use Rattle.std.specs.Option.{option_and_then, option_map, option_map_or}
use Rattle.std.specs.Str.{bytes_eq}
use Rattle.outside_io.specs.Faults.{one_more}

-- what stands under one name: its file, where there is one, and the most bytes that a write may put
-- there
pub record Slot : Type 0 where
  pub name : List ℕ
  pub file : Option (List ℕ)
  pub room : ℕ

-- a folder: the slots of the names that were given a room, no name twice; how many calls of
-- read_file and write_file came, the numbers of those that fail, and the faults of both kinds
pub record FolderInMemory : Type 0 where
  pub slots : List Slot
  pub calls : ℕ
  pub fail : List ℕ
  pub read_faults : ℕ
  pub write_faults : ℕ

-- the slot of a name
abbrev pub is_named : List ℕ → Slot → Bool
is_named name slot = bytes_eq slot.name name

abbrev pub slot_of : List Slot → List ℕ → Option Slot
slot_of slots name = find (is_named name) slots

-- the file of a name
abbrev pub file_of : List Slot → List ℕ → Option (List ℕ)
file_of slots name = option_and_then (λ slot. slot.file) (slot_of slots name)

-- the room of a name, where it was given one
abbrev pub room_of : List Slot → List ℕ → Option ℕ
room_of slots name = option_map (λ slot. slot.room) (slot_of slots name)

-- the next call fails because its number, counted from 1, is listed; the last number, 2^64 - 1,
-- is that of every later call too
abbrev pub is_listed : FolderInMemory → Bool
is_listed folder = list_any (λ number. nat_eq number (one_more folder.calls)) folder.fail

-- the next read of a name fails: it is listed, or the name has no file
abbrev pub next_read_fails : FolderInMemory → List ℕ → Bool
next_read_fails folder name = is_listed folder || is_none (file_of folder.slots name)

-- so many bytes fit the room that a name was given
abbrev pub fits : Option ℕ → ℕ → Bool
fits room size = option_map_or (λ most. nat_le size most) room false

-- the next write of so many bytes to a name fails: it is listed, or the bytes don't fit
abbrev pub next_write_fails : FolderInMemory → List ℕ → ℕ → Bool
next_write_fails folder name size = is_listed folder || not (fits (room_of folder.slots name) size)

-- a name has this slot now, and every other name its old one or none
abbrev pub PutsSlot : Slot → List Slot → List Slot → Type 0
PutsSlot slot old new =
    (name : List ℕ) → slot_of new name ≡ (if bytes_eq slot.name name then Some slot else slot_of old name)
