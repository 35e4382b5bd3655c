-- What a model file and a table give a command, or the cause by which it ends at them. (PICT's guide for both files;
-- which bytes they may have, and that a table may be one of RFC 4180, are this project's rules.)
use Rattle.std.specs.Prelude.{◌≡◌, ℕ, ◌<◌, ◌≤◌, Bool, List, length, Option, Some, None, Result, Ok, Err, nat_lt, if◌then◌else◌}
use Rattle.comma_rows.specs.declared.comma_fault.CommaFault.{CommaFault}
use Rattle.cov_model.specs.believed.Sound.{ModelView}
use Rattle.definitions.specs.believed.Limits.{ModelFile, most_bytes}
use Rattle.definitions.specs.believed.Limits as limits
use Rattle.definitions.specs.believed.RowReading.{RowReading, RowsFault, NoHeader, Twice, Missing, TooManyRows, Width, Suite, read_rows}
use Rattle.model_lex.specs.declared.options.ModelOpts.{ModelOpts}
use Rattle.row_text.specs.declared.rows_fault.RowsFault.TheVariants as rows
use Rattle.type_check.specs.believed.ModelOf.{Answer, IsAnswerOf}
use Rattle.command_line.specs.believed.Stops.{stop_of_model}
use Rattle.command_line.specs.declared.files.FileKind.TheVariants as kinds
use Rattle.command_line.specs.declared.stop.Quantity.TheVariants as quantities
use Rattle.command_line.specs.declared.stop.Stop.{Stop}
use Rattle.command_line.specs.declared.stop.Stop.TheVariants.{BadRows, CannotRead, TooLong, TooMany}
use Rattle.jeldroft_files.specs.believed.Tables.{as_tabs}
use Rattle.jeldroft_files.specs.declared.failure.Cause.{Cause}
use Rattle.jeldroft_files.specs.declared.failure.Cause.TheVariants as causes

-- a step behind another, which needs what that one gives
abbrev pub and_then : {A B : Type 0} → Result A Cause → (A → Result B Cause) → Result B Cause
and_then (Ok given) step = step given
and_then (Err cause) step = Err cause

-- an answer, unless there is a cause for none
abbrev pub unless : {A : Type 0} → Option Stop → Result A Cause → Result A Cause
unless None answer = answer
unless (Some stop) answer = Err (causes.Stop stop)

-- the model of a reading, or its refusal
abbrev pub model_or_cause : Answer → Result ModelView Cause
model_or_cause (Ok read) = Ok read.0
model_or_cause (Err fault) = Err (causes.Stop (stop_of_model fault))

-- what a model file gives: nothing where there is none, or where it has more bytes than it may have; else its model, or
-- its refusal
pub data GivesModel (opts : ModelOpts) (held : Option (List ℕ)) (given : Result ModelView Cause) : Type 0 where
  is_missing : held ≡ None → given ≡ Err (causes.Stop (CannotRead kinds.Model)) → GivesModel opts held given
  is_too_long : (bytes : List ℕ) → held ≡ Some bytes → most_bytes ModelFile < length bytes → given ≡ Err (causes.Stop (TooLong kinds.Model)) → GivesModel opts held given
  is_read : (bytes : List ℕ) (answer : Answer) → held ≡ Some bytes → length bytes ≤ most_bytes ModelFile → IsAnswerOf opts bytes answer → given ≡ model_or_cause answer
      → GivesModel opts held given

-- the bytes of a table whose cells tabs part, or those of the table that says the same where commas part its cells
abbrev pub tabs_or_cause : Result (List ℕ) CommaFault → Result (List ℕ) Cause
tabs_or_cause (Ok bytes) = Ok bytes
tabs_or_cause (Err fault) = Err (causes.Comma fault)

abbrev pub table_of : Bool → Option (List ℕ) → Result (List ℕ) Cause
table_of comma None = Err (causes.Stop (CannotRead kinds.Rows))
table_of comma (Some bytes) = if nat_lt (most_bytes limits.RowFile) (length bytes) then Err (causes.Stop (TooLong kinds.Rows)) else tabs_or_cause (as_tabs comma bytes)

-- the stop of a refusal of a table
abbrev pub stop_of_rows : RowsFault → Stop
stop_of_rows NoHeader = BadRows rows.NoHeader
stop_of_rows (Twice line) = BadRows (rows.Twice line)
stop_of_rows (Missing parameter) = BadRows (rows.Missing parameter)
stop_of_rows (TooManyRows count) = TooMany quantities.Rows count
stop_of_rows (Width line) = BadRows (rows.Width line)

abbrev pub rows_or_cause : Result RowReading RowsFault → Result RowReading Cause
rows_or_cause (Ok reading) = Ok reading
rows_or_cause (Err fault) = Err (causes.Stop (stop_of_rows fault))

-- the rows of a table of tests of a model
abbrev pub tests_of : ModelView → Bool → Option (List ℕ) → Result RowReading Cause
tests_of m comma held = and_then (table_of comma held) (λ bytes. rows_or_cause (read_rows m Suite bytes))

-- a model file, and what is done with its model, call for this text, or for this cause for none
pub record CallsFor (opts : ModelOpts) (held : Option (List ℕ)) (text_of : ModelView → Result (List ℕ) Cause) (due : Result (List ℕ) Cause) : Type 0 where
  pub given : Result ModelView Cause
  pub gives : GivesModel opts held given
  pub is : due ≡ and_then given text_of
