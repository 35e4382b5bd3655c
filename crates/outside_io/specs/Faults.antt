-- Counts of faults. A count is 0 in a new object, never falls, ends at 2^64 - 1 and stays there.
-- (This project's rule.)
use Rattle.std.specs.Prelude.{ℕ, ◌+◌, ◌-◌, ◌^◌, List, min, Bool, true, false}
use Rattle.outside_io.specs.declared.answers.ReadAnswer.{ReadAnswer}
use Rattle.outside_io.specs.declared.answers.ReadAnswer.TheVariants as read
use Rattle.outside_io.specs.declared.answers.WriteAnswer.{WriteAnswer}
use Rattle.outside_io.specs.declared.answers.WriteAnswer.TheVariants as write
use Rattle.outside_io.specs.believed.Faults.{GoesOn}

-- the count after one more fault
abbrev pub one_more : ℕ → ℕ
one_more count = min (count + 1) (2 ^ 64 - 1)

-- the count of each name goes on
abbrev pub CountsGoOn : (List ℕ → ℕ) → (List ℕ → ℕ) → Type 0
CountsGoOn old new = (name : List ℕ) → GoesOn (old name) (new name)

-- whether a read failed
abbrev pub is_failed_read : ReadAnswer → Bool
is_failed_read read.Whole = false
is_failed_read read.TooLong = false
is_failed_read read.Failed = true
is_failed_read read.NoMemory = false

-- whether a write failed
abbrev pub is_failed_write : WriteAnswer → Bool
is_failed_write write.Done = false
is_failed_write write.Failed = true

-- the counts of faults of a folder that has one for the reads of all names, and one for the writes
pub record FaultCounts : Type 0 where
  pub reads : ℕ
  pub writes : ℕ
