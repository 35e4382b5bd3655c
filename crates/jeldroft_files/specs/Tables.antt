-- A table whose cells commas part (RFC 4180), as the table whose cells tabs part that says the same. (This project's
-- rule.)
use Rattle.std.specs.Prelude.{◌≡◌, ℕ, ◌-◌, ◌<◌, ◌≤◌, Bool, List, length, Option, Ok, Err, IsSomeAnd}
use Rattle.comma_rows.specs.declared.comma_fault.CommaFault.{CommaFault}
use Rattle.comma_rows.specs.declared.comma_fault.CommaError.{CommaError}
use Rattle.comma_rows.specs.declared.comma_fault.CommaError.TheVariants.{Fault, NoMemory}
use Rattle.command_line.specs.declared.files.FileKind.TheVariants.{Rows}
use Rattle.command_line.specs.declared.stop.Stop.TheVariants.{OutOfMemory, CannotRead, TooLong}
use Rattle.definitions.specs.believed.Limits.{RowFile, most_bytes}
use Rattle.jeldroft_files.specs.declared.failure.Cause.{Cause}
use Rattle.jeldroft_files.specs.declared.failure.Cause.TheVariants.{Stop, Comma}
use Rattle.jeldroft_files.specs.believed.Tables.{as_tabs}

-- the file is there, has no more bytes than a file of rows may have, and they are this table
abbrev pub IsTableOf : Bool → Option (List ℕ) → List ℕ → Type 0
IsTableOf comma held table = IsSomeAnd held (λ given. (length given ≤ most_bytes RowFile) × (as_tabs comma given ≡ Ok table))

-- the file is there, has no more bytes than a file of rows may have, and they are no table
abbrev pub IsNoTable : Bool → CommaFault → Option (List ℕ) → Type 0
IsNoTable comma fault held = IsSomeAnd held (λ given. (length given ≤ most_bytes RowFile) × (as_tabs comma given ≡ Err fault))

-- the cause of an error of the reading of a text of comma-separated values
abbrev pub cause_of : CommaError → Cause
cause_of (Fault fault) = Comma fault
cause_of NoMemory = Stop OutOfMemory

-- why the reading of a table may end: for want of memory, where the folder failed, where the file has more bytes than it
-- may, and by what RFC 4180 doesn't allow
pub data StopsTable (comma : Bool) (held : Option (List ℕ)) (cause : Cause) : Type 0 where
  out_of_memory : cause ≡ Stop OutOfMemory → StopsTable comma held cause
  cannot_read : cause ≡ Stop (CannotRead Rows) → StopsTable comma held cause
  too_long : cause ≡ Stop (TooLong Rows) → IsSomeAnd held (λ given. most_bytes RowFile < length given) → StopsTable comma held cause
  no_table : (fault : CommaFault) → cause ≡ Comma fault → IsNoTable comma fault held → StopsTable comma held cause
