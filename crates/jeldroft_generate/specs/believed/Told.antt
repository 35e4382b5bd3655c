-- What is told of fewer tests. (This project's rule.)
use Rattle.std.specs.Prelude.{length, Ok}
use Rattle.outside_io.specs.believed.Seen.{SinkSeen}
use Rattle.jeldroft_args.specs.declared.generate.Generate.{Generate}
use Rattle.jeldroft_files.specs.believed.Runs.{Moment}
use Rattle.jeldroft_words.specs.believed.Sums.{TellsLast, sum_line}
use Rattle.shorter_suites.specs.believed.Bounds.{NeedsAtLeast, least_needed}
use Rattle.jeldroft_generate.specs.believed.Asked.{rows_of}
use Rattle.jeldroft_generate.specs.believed.Due.{CallsFor, Held, Start}
use Rattle.jeldroft_generate.specs.believed.Runs.{WritesTable}

-- the output got the table of tests in place of those that grow from what the files call for, and the last line that was
-- told sums them up, by a number of tests below which no valid ones serve what those serve that grow
pub record SumsUp (args : Generate) (held : Held) (before after : Moment) (told : SinkSeen) : Type 0 where
  pub start : Start
  pub called : CallsFor args held (Ok start)
  pub wrote : WritesTable args start before after
  pub sums : TellsLast (sum_line (length wrote.is.rows) (length (rows_of args start.model start.seeds))
      (least_needed start.model (rows_of args start.model start.seeds))) told
  pub least : NeedsAtLeast start.model (rows_of args start.model start.seeds) (least_needed start.model (rows_of args start.model start.seeds))
