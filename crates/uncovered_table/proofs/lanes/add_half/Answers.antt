use Rattle.std.proofs.Math.Nat.{mod-eq_of_lt}
use Rattle.uncovered_table.proofs.LaneLemmas.{four_raised}
use Rattle.uncovered_table.proofs.lanes.add_half.Goals as goal

pub returns : goal.returns
returns c = four_raised _ (λ x y small. mod-eq_of_lt small) c.args.word c.args.scores.now c.requires.long c.requires.low
