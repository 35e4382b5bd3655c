-- What `shrink` reads: the rows of a table and of a file of seed rows, and why they are refused. A row stands with the
-- number of its line. (This project's rule.)
use Rattle.std.specs.Prelude.{ℕ, Bool, List, [], ◌∷◌, length, Option, Some, None, Result, Ok, Err, nat_lt, option_map, if◌then◌else◌}
use Rattle.std.specs.Option.{option_or}
use Rattle.cov_model.specs.believed.Sound.{ModelView}
use Rattle.cov_model.specs.believed.RowFault.{row_fault}
use Rattle.cov_model.specs.believed.Rows.{is_complete}
use Rattle.definitions.specs.believed.RowReading.{RowMode, RowReading, Seed, Suite, read_rows}
use Rattle.command_line.specs.declared.stop.Stop.{Stop}
use Rattle.jeldroft_args.specs.declared.delimiter.Delimiter.{Delimiter}
use Rattle.jeldroft_files.specs.believed.Tables.{is_comma}
use Rattle.jeldroft_files.specs.declared.failure.Cause.{Cause}
use Rattle.jeldroft_files.specs.declared.failure.Cause.TheVariants as causes
use Rattle.jeldroft_inputs.specs.believed.Inputs.{and_then, rows_or_cause, table_of}
use Rattle.jeldroft_shrink.specs.declared.cause.ShrinkCause.{ShrinkCause}
use Rattle.jeldroft_shrink.specs.declared.cause.ShrinkCause.TheVariants.{Files, TooManyRows, Incomplete, Invalid}

-- rows, each with the number of its line
abbrev pub Lines : Type 0
Lines = List (ℕ × List (Option ℕ))

abbrev pub stops_by : Stop → ShrinkCause
stops_by stop = Files (causes.Stop stop)

-- the rows of a reading, or the cause for none
abbrev pub lines_read : Result RowReading Cause → Result Lines ShrinkCause
lines_read (Ok reading) = Ok reading.rows
lines_read (Err cause) = Err (Files cause)

-- the rows of a file of rows
abbrev pub lines_of : ModelView → RowMode → Bool → Option (List ℕ) → Result Lines ShrinkCause
lines_of m mode comma held = lines_read (and_then (table_of comma held) (λ bytes. rows_or_cause (read_rows m mode bytes)))

-- what is wrong with a row: it leaves a parameter without a value, or it isn't valid
abbrev pub row_flaw : ModelView → ℕ × List (Option ℕ) → Option ShrinkCause
row_flaw m line = if is_complete line.1 then option_map (Invalid line.0) (row_fault m line.1) else Some (Incomplete line.0)

-- what is wrong with the first row with which anything is
abbrev pub first_flaw : ModelView → Lines → Option ShrinkCause
first_flaw m [] = None
first_flaw m (line ∷ lines) = option_or (row_flaw m line) (first_flaw m lines)

-- the most rows that may be made fewer
abbrev pub most_given : ℕ
most_given = 65533

abbrev pub given_flaw : ModelView → Lines → Option ShrinkCause
given_flaw m lines = if nat_lt most_given (length lines) then Some (TooManyRows (length lines)) else first_flaw m lines

-- rows, unless something is wrong with them
abbrev pub unless_flawed : Option ShrinkCause → Lines → Result Lines ShrinkCause
unless_flawed None lines = Ok lines
unless_flawed (Some cause) lines = Err cause

abbrev pub tests_of : ModelView → Result Lines ShrinkCause → Result Lines ShrinkCause
tests_of m (Ok lines) = unless_flawed (given_flaw m lines) lines
tests_of m (Err cause) = Err cause

-- the rows of the table: they are tests
abbrev pub given_in : ModelView → Bool → Option (List ℕ) → Result Lines ShrinkCause
given_in m comma held = tests_of m (lines_of m Suite comma held)

-- the seed rows, where a file of them is named
abbrev pub seeds_in : ModelView → Option Delimiter → Option (List ℕ) → Option (List ℕ) → Result Lines ShrinkCause
seeds_in m delimiter None held = Ok []
seeds_in m delimiter (Some name) held = lines_of m Seed (is_comma delimiter name) held
