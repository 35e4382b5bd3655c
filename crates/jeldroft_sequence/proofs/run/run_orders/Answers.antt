use Rattle.jeldroft_files.specs.believed.Runs.{moment}
use Rattle.jeldroft_sequence.proofs.RunEnds as ends
use Rattle.jeldroft_sequence.proofs.run.run_orders.Goals as goal

pub returns : goal.returns
returns g c =
    let args = c.args.args.now in
    let file = (g.F.Folder.seen c.args.files.now).files args.events in
    let answer = c.orders-answer.result in
    let folder = g.F.Folder.seen c.args.files.now in
    let read = g.F.Folder.seen c.orders-answer.new.files in
    let out = g.O.Sink.seen c.args.out.now in
    let after = moment (g.F.Folder.seen c.write_report-end.new.files) (g.O.Sink.seen c.write_report-end.new.out) in
    let end = c.write_report-end.result in
    let is = c.finish.ensures in
    let ended = c.write_report-end.ensures in
    let reads = c.orders-answer.ensures.files in
    let gives = c.orders-answer.ensures.gives in
    record {
      runs = λ held told. ends.runs args.length file answer args.output folder read out after end c.finish.result is ended reads gives held told;
      covers = λ zero held told.
          ends.covers args.length file answer args.output folder read out after end c.finish.result is ended reads gives held told c.orders-answer.ensures.covers zero;
      leaves = ends.leaves args.length file answer args.output folder read out after end c.finish.result is ended reads;
    }
