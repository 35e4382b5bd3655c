use Rattle.jeldroft_files.specs.believed.Runs.{moment}
use Rattle.jeldroft_sequence.proofs.RunEnds as ends
use Rattle.jeldroft_sequence.proofs.run.run_check.Goals as goal

pub returns : goal.returns
returns g c =
    let args = c.args.args.now in
    let files = (g.F.Folder.seen c.args.files.now).files in
    let answer = c.make_verdict-answer.result in
    let folder = g.F.Folder.seen c.args.files.now in
    let read = g.F.Folder.seen c.make_verdict-answer.new.files in
    let out = g.O.Sink.seen c.args.out.now in
    let after = moment (g.F.Folder.seen c.print_verdict-end.new.files) (g.O.Sink.seen c.print_verdict-end.new.out) in
    let end = c.print_verdict-end.result in
    let is = c.finish.ensures in
    let printed = c.print_verdict-end.ensures in
    record {
      judges = λ held other.
          ends.judges answer folder read out after end c.finish.result is printed args.length (files args.events) (files c.args.report.now) c.make_verdict-answer.ensures.gives held other;
      leaves = ends.verdict_leaves answer folder read out after end c.finish.result is printed c.make_verdict-answer.ensures.files;
    }
