use Rattle.definitions.specs.believed.Statistics.{figures_text}
use Rattle.row_text.specs.Told.{figures_seen}
use Rattle.row_text.proofs.Sending.{Adds-then, Holds-all}
use Rattle.row_text.proofs.numbers.put_figures.Goals as goal

pub returns : goal.returns
returns g c =
    let state = g.O.Sink.seen in
    let first = Adds-then
    (Adds-then (Adds-then (Adds-then c.put_number.ensures c.put_number-2.ensures) c.put_number-3.ensures) c.put_number-4.ensures) c.put_number-5.ensures in
    let lines = Adds-then
    (Adds-then (Adds-then (Adds-then (Adds-then first c.put_numbers.ensures) c.put_numbers-2.ensures) c.put_numbers-3.ensures) c.put_numbers-4.ensures) c.put_numbers-5.ensures in
    c.answer.ensures (state c.args.out.now) (state c.put_numbers-5.new.out) (figures_text (figures_seen c.args.figures.now))
    (Holds-all c.new-lines.ensures lines)
