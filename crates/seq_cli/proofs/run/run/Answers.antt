use Rattle.std.proofs.Common.{Err, ap}
use Rattle.seq_cli.specs.Commands.{asked_seen}
use Rattle.seq_cli.proofs.Stopping.{ran_behind, ran_failed, ran_whole}
use Rattle.seq_cli.proofs.run.run.Goals as goal

pub returns-in_err-answer-clause-ran : goal.returns-in_err-answer-clause-ran
returns-in_err-answer-clause-ran g c =
    ran_behind (asked_seen c.args.command.now) (g.F.Folder.seen c.args.files.now) (g.F.Folder.seen c.load_events.new.files) (g.F.Folder.seen c.make_answer.new.files) c.in_ok-events.ensures.files
    c.in_ok-events.events c.in_ok-events.ensures.events (c.in_ok-events.ensures.no_fault (λ failed. cc))
    (g.O.Sink.seen c.args.out.now) (g.O.Sink.seen c.args.out.now)
    c.from_residual-in_err-answer.result c.in_err-answer.field-0.0 c.from_residual-in_err-answer.ensures.1
    c.in_err-answer.ensures.stops (λ failed. c.in_err-answer.ensures.rose (ap Err failed)) (λ other. c.in_err-answer.ensures.no_fault (λ failed. other (cc)))

pub returns-in-Done-clause-ran : goal.returns-in-Done-clause-ran
returns-in-Done-clause-ran g c =
    ran_whole (asked_seen c.args.command.now) (g.F.Folder.seen c.args.files.now) (g.F.Folder.seen c.load_events.new.files) (g.F.Folder.seen c.make_answer.new.files) c.in_ok-events.ensures.files
    c.in_ok-events.events c.in_ok-events.ensures.events (c.in_ok-events.ensures.no_fault (λ failed. cc))
    (g.O.Sink.seen c.args.out.now) (g.O.Sink.seen c.put.new.self)
    (c.in_ok-answer.ensures.no_fault (λ failed. cc)) c.in_ok-answer.answer.text.items c.as_slice.result.now c.in_ok-answer.answer.ended c.in_ok-answer.ensures.answer c.as_slice.ensures.value
    c.in-Done.ensures

pub returns-clause-ran : goal.returns-clause-ran
returns-clause-ran g c =
    ran_failed (asked_seen c.args.command.now) (g.F.Folder.seen c.args.files.now) (g.F.Folder.seen c.load_events.new.files) (g.F.Folder.seen c.make_answer.new.files) c.in_ok-events.ensures.files
    c.in_ok-events.events c.in_ok-events.ensures.events (c.in_ok-events.ensures.no_fault (λ failed. cc))
    (g.O.Sink.seen c.args.out.now) (g.O.Sink.seen c.put.new.self)
    (c.in_ok-answer.ensures.no_fault (λ failed. cc)) c.in_ok-answer.answer.text.items c.as_slice.result.now c.in_ok-answer.answer.ended c.in_ok-answer.ensures.answer c.as_slice.ensures.value
    c.in-Failed.ensures
