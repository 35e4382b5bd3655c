-- What is told of fewer tests. (This project's rule.)
use Rattle.std.specs.Prelude.{length}
use Rattle.outside_io.specs.believed.Seen.{SinkSeen}
use Rattle.jeldroft_args.specs.declared.shrink.Shrink.{Shrink}
use Rattle.jeldroft_files.specs.believed.Runs.{Moment}
use Rattle.jeldroft_words.specs.believed.Sums.{TellsLast, sum_line}
use Rattle.shorter_suites.specs.believed.Bounds.{NeedsAtLeast, least_needed}
use Rattle.shorter_suites.specs.believed.Laws.{rows_of}
use Rattle.jeldroft_shrink.specs.believed.Runs.{HeldFiles, WritesShorter}

-- the output got the table of a shorter suite, and the last line that was told sums it up, by a number of tests below which
-- no valid ones serve what the given rows serve
pub record SumsUp (args : Shrink) (held : HeldFiles) (before after : Moment) (told : SinkSeen) : Type 0 where
  pub wrote : WritesShorter args held before after
  pub sums : TellsLast (sum_line (length wrote.rows) (length wrote.given) (least_needed wrote.m (rows_of wrote.given))) told
  pub least : NeedsAtLeast wrote.m (rows_of wrote.given) (least_needed wrote.m (rows_of wrote.given))
