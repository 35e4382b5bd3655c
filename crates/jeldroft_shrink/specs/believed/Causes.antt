-- Why `shrink` gives no table, and its exit status. (This project's rule.)
use Rattle.std.specs.Prelude.{ℕ}
use Rattle.jeldroft_files.specs.believed.Failures as files
use Rattle.jeldroft_shrink.specs.declared.cause.ShrinkCause.{ShrinkCause}
use Rattle.jeldroft_shrink.specs.declared.cause.ShrinkCause.TheVariants.{Files, NoTable, TooManyRows, Incomplete, Invalid}

abbrev pub status_of : ShrinkCause → ℕ
status_of (Files cause) = files.status_of cause
status_of NoTable = 2
status_of (TooManyRows count) = 2
status_of (Incomplete line) = 2
status_of (Invalid line why) = 2
