use Rattle.definitions.specs.believed.Statistics.{statistics_text}
use Rattle.row_text.specs.Told.{statistics_seen}
use Rattle.row_text.proofs.Sending.{Adds-then, Holds-all}
use Rattle.row_text.proofs.numbers.put_stats.Goals as goal

pub returns : goal.returns
returns g c =
    let state = g.O.Sink.seen in
    let lines = Adds-then
    (Adds-then (Adds-then (Adds-then c.put_number.ensures c.put_number-2.ensures) c.put_number-3.ensures) c.put_number-4.ensures) c.put_number-5.ensures in
    c.answer.ensures (state c.args.out.now) (state c.put_number-5.new.out) (statistics_text (statistics_seen c.args.stats.now))
    (Holds-all c.new-lines.ensures lines)
