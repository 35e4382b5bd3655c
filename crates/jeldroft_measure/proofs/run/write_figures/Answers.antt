use Rattle.std.proofs.Common.{subst}
use Rattle.jeldroft_files.specs.believed.Models.{opts_of}
use Rattle.jeldroft_files.specs.Runs.{Ends, answer_seen, end_status}
use Rattle.jeldroft_files.specs.believed.Runs.{moment}
use Rattle.jeldroft_files.proofs.Ending as ending
use Rattle.jeldroft_inputs.proofs.Calling.{due_once}
use Rattle.jeldroft_measure.specs.believed.Due.{text_of}
use Rattle.jeldroft_measure.proofs.run.write_figures.Goals as goal

pub returns-clause-runs : goal.returns-clause-runs
returns-clause-runs g c = λ model table told told_table.
    let args = c.args.args.now in
    ending.runs_as (due_once (opts_of args.model args.strength) model (λ m. text_of args m table)) args.output (g.F.Folder.seen c.args.files.now) (g.F.Folder.seen c.answer-answer.new.files)
    (g.O.Sink.seen c.args.out.now) (moment (g.F.Folder.seen c.end_with.new.files) (g.O.Sink.seen c.end_with.new.out)) (end_status c.end_with.result) (answer_seen c.answer-answer.result)
    (c.answer-answer.ensures.due model table told told_table)
    (subst (λ output. Ends (answer_seen c.answer-answer.result) output (moment (g.F.Folder.seen c.answer-answer.new.files) (g.O.Sink.seen c.args.out.now))
    (moment (g.F.Folder.seen c.end_with.new.files) (g.O.Sink.seen c.end_with.new.out)) (end_status c.end_with.result)) c.output_of.ensures c.end_with.ensures)

pub returns-clause-leaves : goal.returns-clause-leaves
returns-clause-leaves g c =
    let args = c.args.args.now in
    ending.leaves args.output (g.F.Folder.seen c.args.files.now) (g.F.Folder.seen c.answer-answer.new.files)
    (g.O.Sink.seen c.args.out.now) (moment (g.F.Folder.seen c.end_with.new.files) (g.O.Sink.seen c.end_with.new.out)) (end_status c.end_with.result) (answer_seen c.answer-answer.result)
    c.answer-answer.ensures.files
    (subst (λ output. Ends (answer_seen c.answer-answer.result) output (moment (g.F.Folder.seen c.answer-answer.new.files) (g.O.Sink.seen c.args.out.now))
    (moment (g.F.Folder.seen c.end_with.new.files) (g.O.Sink.seen c.end_with.new.out)) (end_status c.end_with.result)) c.output_of.ensures c.end_with.ensures)
