use Rattle.std.proofs.Common.{not}
use Rattle.jeldroft_files.specs.believed.Runs.{moment}
use Rattle.jeldroft_import.proofs.RunEnds as ends
use Rattle.jeldroft_import.proofs.run.run_import.Goals as goal

pub returns : goal.returns
returns g c =
    let args = c.args.args.now in
    let fold = not args.case_sensitive in
    let file = (g.F.Folder.seen c.args.files.now).files args.file in
    let answer = c.answer-answer.result in
    let folder = g.F.Folder.seen c.args.files.now in
    let read = g.F.Folder.seen c.answer-answer.new.files in
    let out = g.O.Sink.seen c.args.out.now in
    let after = moment (g.F.Folder.seen c.end_with-end.new.files) (g.O.Sink.seen c.end_with-end.new.out) in
    let end = c.end_with-end.result in
    let is = c.finish.ensures in
    let ended = c.end_with-end.ensures in
    let reads = c.answer-answer.ensures.files in
    let gives = c.answer-answer.ensures.gives in
    record {
      runs = λ held told. ends.runs fold file answer args.output folder read out after end c.finish.result is ended reads gives held told;
      meaning = λ zero held told. ends.meaning fold file answer args.output folder read out after end c.finish.result is ended reads gives held told zero;
      leaves = ends.leaves fold file answer args.output folder read out after end c.finish.result is ended reads;
    }
