-- Why a command of `jeldroft` ends without what it is asked for, and its exit status. (This project's rule.)
use Rattle.std.specs.Prelude.{ℕ}
use Rattle.command_line.specs.declared.stop.Stop.{Stop}
use Rattle.command_line.specs.declared.stop.Stop.TheVariants.{OutOfMemory, CannotRead, CannotWrite, CannotWriteReport}
use Rattle.jeldroft_files.specs.declared.failure.Cause.{Cause}
use Rattle.jeldroft_files.specs.declared.failure.Cause.TheVariants as causes

-- 3 where memory, a read or a write failed; 2 where the model or another file is wrong, a limit is passed, or the budget
-- that was given is spent
abbrev pub status_of_stop : Stop → ℕ
status_of_stop OutOfMemory = 3
status_of_stop (CannotRead kind) = 3
status_of_stop (CannotWrite kind) = 3
status_of_stop CannotWriteReport = 3
status_of_stop stop = 2

abbrev pub status_of : Cause → ℕ
status_of (causes.Stop stop) = status_of_stop stop
status_of (causes.Comma fault) = 2
