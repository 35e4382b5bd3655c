use Rattle.std.proofs.Common.{◌≡◌, Ok, subst}
use Rattle.std.specs.Prelude.{IfSome}
use Rattle.jeldroft_sequence.specs.believed.Sequences.{events_held}
use Rattle.jeldroft_sequence.specs.Steps.{IsDue}
use Rattle.jeldroft_sequence.proofs.RunEnds.{no_events, on_events}
use Rattle.jeldroft_sequence.proofs.verdict.make_verdict.Goals as goal

pub returns-in_err-events-clause-gives : goal.returns-in_err-events-clause-gives
returns-in_err-events-clause-gives g c =
    let files = (g.F.Folder.seen c.args.files.now).files in
    let len = c.args.args.now.length in
    let cause = c.in_err-events.field-0.0 in
    no_events (files c.args.args.now.events) (files c.args.report.now) len c.from_residual.result cause c.from_residual.ensures.1
    (subst (λ name. IfSome (files name) (λ held. IsDue (events_held len held) cause)) c.as_str.ensures.value c.in_err-events.ensures.gives)

pub returns-clause-gives : goal.returns-clause-gives
returns-clause-gives g c =
    let files = (g.F.Folder.seen c.args.files.now).files in
    let len = c.args.args.now.length in
    let e = c.in_ok-events.events in
    let report = c.args.report.now in
    on_events (files c.args.args.now.events) (files report) ((g.F.Folder.seen c.load_events.new.files).files report) len e c.judge_file.result
    (c.in_ok-events.ensures.files report) (subst (λ name. IfSome (files name) (λ held. events_held len held ≡ Ok e)) c.as_str.ensures.value c.in_ok-events.ensures.gives)
    c.judge_file.ensures.gives
