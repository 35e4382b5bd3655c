use Rattle.std.proofs.Common.{length}
use Rattle.refutation.proofs.cutting.most_pieces.Given as goal

abbrev pub decreases-loop-behind : goal.decreases-loop-behind
decreases-loop-behind l = length l.rest
