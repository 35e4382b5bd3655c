use Rattle.std.proofs.Common.{subst}
use Rattle.command_line.specs.believed.Told.{Tells}
use Rattle.seq_cli.specs.believed.Stops.{end_text}
use Rattle.seq_cli.proofs.Causes.{complete_end, long_end, refused_end, report_long_end}
use Rattle.seq_cli.proofs.RunEnds.{accepts_end, calm_end, covers_end, ran_asked, read_end, refuses_end, unbroken_end}
use Rattle.seq_cli.proofs.run.run_seq.Goals as goal
use Rattle.value_text.proofs.ListLemmas.{one_ok}

pub returns-clause-headline : goal.returns-clause-headline
returns-clause-headline g c = λ zero asked held before words none at told.
    covers_end (ran_asked c.in-Ok.ensures words c.run-end.ensures.ran) c.tell.result c.tell.ensures.status held before zero none at told

pub returns-clause-accepts : goal.returns-clause-accepts
returns-clause-accepts g c = λ zero asked name held report words checked at at_report.
    accepts_end (ran_asked c.in-Ok.ensures words c.run-end.ensures.ran) c.tell.result c.tell.ensures.status name held report zero checked at at_report

pub returns-clause-refuses : goal.returns-clause-refuses
returns-clause-refuses g c = λ ten asked held words at.
    refuses_end (ran_asked c.in-Ok.ensures words c.run-end.ensures.ran) c.tell.result c.tell.ensures.status held ten at

pub returns-clause-run : goal.returns-clause-run
returns-clause-run g c = λ asked words. record {
  end = c.run-end.result;
  ends = (ran_asked c.in-Ok.ensures words c.run-end.ensures.ran).ends;
  rose = (ran_asked c.in-Ok.ensures words c.run-end.ensures.ran).rose;
  told =
      subst (λ a. Tells (g.E.Sink.seen c.args.diag.now) (g.E.Sink.seen c.tell.new.diag) (end_text a c.run-end.result))
      (one_ok c.in-Ok.ensures words) c.tell.ensures.told;
  ended = c.tell.ensures.status;
}

pub returns-clause-complete : goal.returns-clause-complete
returns-clause-complete g c = λ asked bytes e report words at short spelled.
    complete_end (ran_asked c.in-Ok.ensures words c.run-end.ensures.ran) c.tell.result c.tell.ensures.status _ e at (short, spelled) report

pub returns-clause-refused : goal.returns-clause-refused
returns-clause-refused g c = λ asked bytes fault words.
    refused_end (ran_asked c.in-Ok.ensures words c.run-end.ensures.ran) c.tell.result c.tell.ensures.status bytes fault

pub returns-clause-too_long : goal.returns-clause-too_long
returns-clause-too_long g c = λ asked bytes words.
    long_end (ran_asked c.in-Ok.ensures words c.run-end.ensures.ran) c.tell.result c.tell.ensures.status bytes

pub returns-clause-report_too_long : goal.returns-clause-report_too_long
returns-clause-report_too_long g c = λ asked held e name report words at spells.
    report_long_end (ran_asked c.in-Ok.ensures words c.run-end.ensures.ran) c.tell.result c.tell.ensures.status held e at spells name report

pub returns-clause-read : goal.returns-clause-read
returns-clause-read g c = λ seven asked words.
    read_end (ran_asked c.in-Ok.ensures words c.run-end.ensures.ran) c.tell.result c.tell.ensures.status seven

pub returns-clause-no_read_fault : goal.returns-clause-no_read_fault
returns-clause-no_read_fault g c = calm_end c.run-end.ensures.ran c.tell.result c.tell.ensures.status

pub returns-clause-no_fault : goal.returns-clause-no_fault
returns-clause-no_fault g c = unbroken_end c.run-end.ensures.ran c.tell.result c.tell.ensures.status
