-- What a model file and a file of seed tests give, or the cause by which a command ends at them. (PICT's guide for both
-- files; which bytes they may have, and that seeds may be a table of RFC 4180, are this project's rules.)
use Rattle.std.specs.Prelude.{◌≡◌, ℕ, ◌<◌, ◌≤◌, Bool, List, [], length, Option, Some, None, Result, Ok, Err, nat_lt, if◌then◌else◌}
use Rattle.comma_rows.specs.declared.comma_fault.CommaFault.{CommaFault}
use Rattle.cov_model.specs.believed.Sound.{ModelView}
use Rattle.definitions.specs.believed.Limits.{ModelFile, RowFile, most_bytes}
use Rattle.definitions.specs.believed.RowReading.{RowReading, RowsFault, NoHeader, Twice, Missing, TooManyRows, Width, Seed, read_rows}
use Rattle.model_lex.specs.declared.options.ModelOpts.{ModelOpts}
use Rattle.row_text.specs.declared.rows_fault.RowsFault.TheVariants as rows
use Rattle.type_check.specs.believed.ModelOf.{Answer, IsAnswerOf}
use Rattle.command_line.specs.believed.Stops.{stop_of_model}
use Rattle.command_line.specs.declared.files.FileKind.TheVariants as kinds
use Rattle.command_line.specs.declared.stop.Quantity.TheVariants as quantities
use Rattle.command_line.specs.declared.stop.Stop.{Stop}
use Rattle.command_line.specs.declared.stop.Stop.TheVariants.{BadRows, CannotRead, TooLong, TooMany}
use Rattle.jeldroft_files.specs.believed.Tables.{as_tabs}
use Rattle.jeldroft_files.specs.declared.failure.Cause.{Cause}
use Rattle.jeldroft_files.specs.declared.failure.Cause.TheVariants as causes

-- a step behind another, which needs what that one gives
abbrev pub and_then : {A B : Type 0} → Result A Cause → (A → Result B Cause) → Result B Cause
and_then (Ok given) step = step given
and_then (Err cause) step = Err cause

-- an answer, unless there is a cause for none
abbrev pub unless : {A : Type 0} → Option Stop → Result A Cause → Result A Cause
unless None answer = answer
unless (Some stop) answer = Err (causes.Stop stop)

-- the model of a reading, or its refusal
abbrev pub model_or_cause : Answer → Result ModelView Cause
model_or_cause (Ok read) = Ok read.0
model_or_cause (Err fault) = Err (causes.Stop (stop_of_model fault))

-- what a model file gives: nothing where there is none, or where it has more bytes than it may have; else its model, or
-- its refusal
pub data GivesModel (opts : ModelOpts) (held : Option (List ℕ)) (given : Result ModelView Cause) : Type 0 where
  is_missing : held ≡ None → given ≡ Err (causes.Stop (CannotRead kinds.Model)) → GivesModel opts held given
  is_too_long : (bytes : List ℕ) → held ≡ Some bytes → most_bytes ModelFile < length bytes → given ≡ Err (causes.Stop (TooLong kinds.Model)) → GivesModel opts held given
  is_read : (bytes : List ℕ) (answer : Answer) → held ≡ Some bytes → length bytes ≤ most_bytes ModelFile → IsAnswerOf opts bytes answer → given ≡ model_or_cause answer
      → GivesModel opts held given

-- the stop of a refusal of a file of rows
abbrev pub stop_of_rows : RowsFault → Stop
stop_of_rows NoHeader = BadRows rows.NoHeader
stop_of_rows (Twice line) = BadRows (rows.Twice line)
stop_of_rows (Missing parameter) = BadRows (rows.Missing parameter)
stop_of_rows (TooManyRows count) = TooMany quantities.Rows count
stop_of_rows (Width line) = BadRows (rows.Width line)

abbrev pub rows_or_cause : Result RowReading RowsFault → Result RowReading Cause
rows_or_cause (Ok reading) = Ok reading
rows_or_cause (Err fault) = Err (causes.Stop (stop_of_rows fault))

-- the seed tests of a table with tabs between its cells, or the cause for which there is none
abbrev pub seeds_or_cause : ModelView → Result (List ℕ) CommaFault → Result RowReading Cause
seeds_or_cause m (Ok bytes) = rows_or_cause (read_rows m Seed bytes)
seeds_or_cause m (Err fault) = Err (causes.Comma fault)

-- the seed tests of a model in a file, which may not be there and may have too many bytes
abbrev pub seeds_in : ModelView → Bool → Option (List ℕ) → Result RowReading Cause
seeds_in m comma None = Err (causes.Stop (CannotRead kinds.Rows))
seeds_in m comma (Some bytes) = if nat_lt (most_bytes RowFile) (length bytes) then Err (causes.Stop (TooLong kinds.Rows)) else seeds_or_cause m (as_tabs comma bytes)

-- and where there may be no such file
abbrev pub seeds_of : ModelView → Bool → Option (Option (List ℕ)) → Result RowReading Cause
seeds_of m comma None = Ok (record { rows = []; notes = [] })
seeds_of m comma (Some held) = seeds_in m comma held
