use Rattle.std.proofs.Common.{◌≡◌, Some, ap, subst, sym, ◌∙◌}
use Rattle.std.specs.Prelude.{option_map}
use Rattle.seq_cli.specs.Commands.{asked_seen}
use Rattle.seq_cli.specs.believed.Runs.{IsReportRead, answer_of}
use Rattle.seq_cli.proofs.Stopping.{no_report_read}
use Rattle.seq_cli.proofs.answer.make_answer.Goals as goal

pub returns-in_err-report-in-Some-clause-stops : goal.returns-in_err-report-in-Some-clause-stops
returns-in_err-report-in-Some-clause-stops g c =
    no_report_read (asked_seen c.args.command.now) (g.F.Folder.seen c.args.files.now).files c.in-Some.name.now c.from_residual-in_err-report-in-Some.result
    c.in_err-report-in-Some.field-0.0 c.from_residual-in_err-report-in-Some.ensures.1 (ap (option_map (λ name. name.now)) c.in-Some.is)
    c.in_err-report-in-Some.ensures.stops

pub returns-in_ok-check-in-Some-clause-answer : goal.returns-in_ok-check-in-Some-clause-answer
returns-in_ok-check-in-Some-clause-answer g c =
    let e = c.args.events.now in
    let files = (g.F.Folder.seen c.args.files.now).files in
    let bytes = c.in_ok-report-in-Some.report.items in
    let named : (asked_seen c.args.command.now).report ≡ Some c.in-Some.name.now = ap (option_map (λ name. name.now)) c.in-Some.is in
    record {
      report = Some bytes;
      read = subst (λ name. IsReportRead files name (Some bytes)) (sym named) c.in_ok-report-in-Some.ensures.bytes;
      text_is = c.in_ok-check-in-Some.ensures.text ∙ ap (λ report. (answer_of e (Some report)).text) c.as_slice.ensures.value;
      ended_is = c.in_ok-check-in-Some.ensures.ended ∙ ap (λ report. (answer_of e (Some report)).ended) c.as_slice.ensures.value;
    }
