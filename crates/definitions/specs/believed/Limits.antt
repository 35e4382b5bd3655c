-- The limits of what is read and counted. (This project's rules.)
use Rattle.std.specs.Prelude.{ℕ, ◌^◌}

-- what is counted and has a limit
pub data Counted : Type 0 where
  Parameters : Counted
  Values : Counted
  Names : Counted
  Constraints : Counted
  DemandedSets : Counted
  DemandedTuples : Counted
  Rows : Counted
  SuspectCandidates : Counted

-- the most there may be: of the values of one parameter, and of the names of one value
abbrev pub most_counted : Counted → ℕ
most_counted Parameters = 256
most_counted Values = 4095
most_counted Names = 64
most_counted Constraints = 4096
most_counted DemandedSets = 2 ^ 20
most_counted DemandedTuples = 2 ^ 26
most_counted Rows = 2 ^ 20
most_counted SuspectCandidates = 2 ^ 22

-- the files whose bytes have a limit; a report is a row file
pub data Measured : Type 0 where
  ModelFile : Measured
  RowFile : Measured
  ProofFile : Measured

-- the most bytes that such a file may have
abbrev pub most_bytes : Measured → ℕ
most_bytes ModelFile = 2 ^ 22
most_bytes RowFile = 2 ^ 26
most_bytes ProofFile = 2 ^ 28
