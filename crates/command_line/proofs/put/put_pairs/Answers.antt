use Rattle.std.proofs.Common.{◌∙◌}
use Rattle.command_line.proofs.PutPairs.{Puts-pair, Puts-failed_pair}
use Rattle.command_line.proofs.put.put_pairs.Goals as goal

pub returns-in-Failed : goal.returns-in-Failed
returns-in-Failed g c =
    Puts-failed_pair c.args.pairs.now c.loop-place.place (0, 0)
    (g.E.Sink.seen c.args.sink.now) (g.E.Sink.seen c.loop-place.sink) (g.E.Sink.seen c.put_pair.new.sink)
    c.loop-place-test.true c.loop-place.invariant c.in-Failed.ensures

pub loop-place-preserved : goal.loop-place-preserved
loop-place-preserved g c =
    Puts-pair c.args.pairs.now c.loop-place.place (0, 0)
    (g.E.Sink.seen c.args.sink.now) (g.E.Sink.seen c.loop-place.sink) (g.E.Sink.seen c.put_pair.new.sink)
    c.loop-place-test.true c.loop-place.invariant c.in-Done.ensures
