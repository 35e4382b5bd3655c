use Rattle.std.proofs.Math.Nat.{mod-eq_of_lt}
use Rattle.uncovered_table.proofs.LaneLemmas.{lanes_raised}
use Rattle.uncovered_table.proofs.lanes.with_lanes.Goals as goal

pub returns : goal.returns
returns c = lanes_raised _ (λ x y small. mod-eq_of_lt small) c.args.word c.args.counts c.requires.long c.requires.low
