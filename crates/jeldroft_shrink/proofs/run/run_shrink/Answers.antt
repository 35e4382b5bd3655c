use Rattle.std.proofs.Common.{◌∙◌, sym}
use Rattle.jeldroft_files.specs.believed.Runs.{moment}
use Rattle.jeldroft_shrink.specs.Steps.{answer_seen, end_status}
use Rattle.jeldroft_shrink.proofs.Tables.{answered_at, left, not_one, run, told_sum, writes_shorter}
use Rattle.jeldroft_shrink.proofs.run.run_shrink.Goals as goal

pub returns-clause-runs : goal.returns-clause-runs
returns-clause-runs g c = λ held holds.
    run c.args.args.now held _ (g.F.Folder.seen c.args.files.now) (g.F.Folder.seen c.make_answer-answer.new.files) (g.O.Sink.seen c.args.out.now)
    (moment (g.F.Folder.seen c.write_answer-end.new.files) (g.O.Sink.seen c.write_answer-end.new.out))
    c.finish.result (end_status c.write_answer-end.result) (answer_seen c.make_answer-answer.result)
    c.output_name.ensures c.finish.ensures.status (c.make_answer-answer.ensures.called held holds) c.write_answer-end.ensures.ends

pub returns-clause-shorter : goal.returns-clause-shorter
returns-clause-shorter g c = λ zero held holds.
    writes_shorter c.args.args.now c.requires.marks c.requires.strength held
    (moment (g.F.Folder.seen c.args.files.now) (g.O.Sink.seen c.args.out.now))
    (moment (g.F.Folder.seen c.write_answer-end.new.files) (g.O.Sink.seen c.write_answer-end.new.out)) c.finish.result
    (run c.args.args.now held _ (g.F.Folder.seen c.args.files.now) (g.F.Folder.seen c.make_answer-answer.new.files) (g.O.Sink.seen c.args.out.now)
    (moment (g.F.Folder.seen c.write_answer-end.new.files) (g.O.Sink.seen c.write_answer-end.new.out))
    c.finish.result (end_status c.write_answer-end.result) (answer_seen c.make_answer-answer.result)
    c.output_name.ensures c.finish.ensures.status (c.make_answer-answer.ensures.called held holds) c.write_answer-end.ensures.ends)
    zero

pub returns-clause-leaves : goal.returns-clause-leaves
returns-clause-leaves g c =
    left _ c.args.args.now.output (g.F.Folder.seen c.args.files.now) (g.F.Folder.seen c.make_answer-answer.new.files) (g.O.Sink.seen c.args.out.now)
    (moment (g.F.Folder.seen c.write_answer-end.new.files) (g.O.Sink.seen c.write_answer-end.new.out))
    c.finish.result (end_status c.write_answer-end.result) (answer_seen c.make_answer-answer.result)
    c.make_answer-answer.ensures.files c.output_name.ensures c.finish.ensures.status c.write_answer-end.ensures.ends

pub returns-clause-answered : goal.returns-clause-answered
returns-clause-answered g c = λ one.
    not_one (answer_seen c.make_answer-answer.result) _
    (moment (g.F.Folder.seen c.make_answer-answer.new.files) (g.O.Sink.seen c.args.out.now))
    (moment (g.F.Folder.seen c.write_answer-end.new.files) (g.O.Sink.seen c.write_answer-end.new.out))
    (end_status c.write_answer-end.result) c.write_answer-end.ensures.ends (sym c.finish.ensures.status ∙ one)

pub returns-clause-told : goal.returns-clause-told
returns-clause-told g c = λ zero terminal loud held holds.
    told_sum c.args.args.now c.requires.marks c.requires.strength held (g.F.Folder.seen c.args.files.now) (g.F.Folder.seen c.make_answer-answer.new.files)
    (g.O.Sink.seen c.args.out.now) (g.E.Sink.seen c.finish.new.diag) (moment (g.F.Folder.seen c.write_answer-end.new.files) (g.O.Sink.seen c.write_answer-end.new.out))
    _ c.output_name.ensures c.make_answer-answer.result c.write_answer-end.result c.finish.result
    (answered_at c.args.args.now (g.F.Folder.seen c.args.files.now).files held holds c.make_answer-answer.result c.make_answer-answer.ensures.table)
    c.write_answer-end.ensures.ends c.write_answer-end.ensures.same (c.finish.ensures.told terminal loud) c.finish.ensures.status zero
