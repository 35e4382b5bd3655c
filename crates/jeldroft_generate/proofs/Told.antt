-- What is told of fewer tests.
use Rattle.std.proofs.Common.{◌≡◌, ℕ, List, length, Option, None, Some, Result, Ok, Err, refl, sym, subst}
use Rattle.std.specs.Prelude.{◌≢◌, IfOk, IsOkAnd}
use Rattle.outside_io.specs.believed.Seen.{FolderSeen, SinkSeen}
use Rattle.cov_model.specs.believed.Sound.{ModelView}
use Rattle.shorter_suites.specs.believed.Bounds.{least_needed}
use Rattle.shorter_suites.proofs.Counting.{none_is_shorter}
use Rattle.jeldroft_args.specs.declared.generate.Generate.{Generate}
use Rattle.jeldroft_args.specs.declared.shrinking.Shrinking.{Shrinking}
use Rattle.jeldroft_files.proofs.Ending.{written_since}
use Rattle.jeldroft_files.specs.Runs.{end_status}
use Rattle.jeldroft_files.specs.believed.Failures.{status_of}
use Rattle.jeldroft_files.specs.believed.Runs.{Moment, moment}
use Rattle.jeldroft_files.specs.declared.failure.Failure.{Failure}
use Rattle.jeldroft_words.specs.believed.Sums.{TellsLast, sum_line}
use Rattle.jeldroft_words.specs.declared.fewer_tests.FewerTests.{FewerTests}
use Rattle.jeldroft_generate.specs.believed.Asked.{proof_name, rows_of}
use Rattle.jeldroft_generate.specs.believed.Due.{CallsFor, Held}
use Rattle.jeldroft_generate.specs.believed.Told.{SumsUp}
use Rattle.jeldroft_generate.specs.Due.{Answers, IsMadeOf}
use Rattle.jeldroft_generate.specs.Numbers.{AreNumbersFor, TellsNumbers}
use Rattle.jeldroft_generate.specs.Runs.{Finishes}
use Rattle.jeldroft_generate.specs.declared.made.Made.{Made}
use Rattle.jeldroft_generate.specs.declared.telling.Summary.{Summary}
use Rattle.jeldroft_generate.proofs.Runs.{not_zero}

-- the line that sums up is that of the rows
line_of : (shrinking : Option Shrinking) (m : ModelView) (grown rows : List (List (Option ℕ))) (numbers : Option FewerTests) (told : SinkSeen) → shrinking ≢ None
    → AreNumbersFor shrinking m grown rows numbers → TellsNumbers numbers told → TellsLast (sum_line (length rows) (length grown) (least_needed m grown)) told
line_of None m grown rows numbers told asked are tells = absurd (asked refl)
line_of (Some shrinking) m grown rows None told asked are tells = absurd are
line_of (Some shrinking) m grown rows (Some numbers) told asked are tells =
    subst (λ n. TellsLast (sum_line (length rows) (length grown) n) told) are.least
    (subst (λ n. TellsLast (sum_line (length rows) n numbers.least) told) are.given
    (subst (λ n. TellsLast (sum_line n numbers.given numbers.least) told) are.tests tells))

-- after status 0 the last line sums up the fewer tests that were asked for
pub told_sum : (args : Generate) (folder read : FolderSeen) (out told : SinkSeen) (after : Moment) (held : Held) (answer : Result Made Failure) (end : Result Summary Failure)
    → Answers (CallsFor args held) (IsMadeOf args) answer → Finishes answer (proof_name args) args.output (moment read out) after (end_status end)
    → IfOk end (λ summary. IsOkAnd answer (λ made. made.summary ≡ summary)) → IfOk end (λ summary. TellsNumbers summary.fewer told) → end_status end ≡ 0
    → args.shrinking ≢ None → SumsUp args held (moment folder out) after told
told_sum args folder read out told after held answer (Err failure) answers ends same tells zero asked =
    absurd (not_zero failure.cause (status_of failure.cause) refl zero)
told_sum args folder read out told after held (Err failure) (Ok summary) answers ends same tells zero asked = absurd same
told_sum args folder read out told after held (Ok made) (Ok summary) (start, called, made_of) ends same tells zero asked = record {
  start = start;
  called = called;
  wrote = record {
    table = made.table.items;
    is = made_of.table;
    written = written_since args.output made.table.items (moment folder out) (moment read out) after refl (ends.written zero);
  };
  sums =
      line_of args.shrinking start.model (rows_of args start.model start.seeds) made_of.table.rows made.summary.fewer told asked made_of.numbers
      (subst (λ (s : Summary). TellsNumbers s.fewer told) (sym same) tells);
  least = none_is_shorter start.model (rows_of args start.model start.seeds);
}
