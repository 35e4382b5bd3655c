-- Why a run may end before its output is written whole: its status, and its line on standard error.
-- (This project's rules.)
use Rattle.command_line.specs.declared.stop.Stop.{Stop}
use Rattle.row_text.specs.declared.rows_fault.RowsFault.{RowsFault}
use Rattle.row_text.specs.declared.rows_fault.RowsFault.TheVariants.{NoHeader, Twice, Missing, TooManyRows, Width}
use Rattle.row_text.specs.declared.rows_fault.RowsFault.TheVariants as rows_faults
use Rattle.command_line.specs.declared.stop.Stop.TheVariants.{OutOfMemory, BadRows}
use Rattle.command_line.specs.declared.stop.Stop.TheVariants.{TooMany}
use Rattle.command_line.specs.declared.stop.Quantity.TheVariants.{Rows}

-- the stop of a refusal of a file of rows
abbrev pub stop_of_rows : RowsFault → Stop
stop_of_rows NoHeader = BadRows NoHeader
stop_of_rows (Twice line) = BadRows (Twice line)
stop_of_rows (Missing parameter) = BadRows (Missing parameter)
stop_of_rows (TooManyRows count) = TooMany Rows count
stop_of_rows (Width line) = BadRows (Width line)
stop_of_rows (rows_faults.NoMemory) = OutOfMemory
