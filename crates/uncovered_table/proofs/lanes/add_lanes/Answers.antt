use Rattle.std.specs.Int.{bit_at}
use Rattle.uncovered_table.proofs.LaneLemmas.{raised_put}
use Rattle.uncovered_table.proofs.lanes.add_lanes.Goals as goal

pub returns : goal.returns
returns c = raised_put (bit_at c.args.word) 8 c.args.scores.now c.with_lanes.result c.requires.long c.with_lanes.ensures
