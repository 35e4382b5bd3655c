use Rattle.std.proofs.Common.{length}
use Rattle.tuple_index.proofs.demand.+unions_of.Given as goal

abbrev pub decreases-unions_of : goal.decreases-unions_of
decreases-unions_of l = length l.taken.now
