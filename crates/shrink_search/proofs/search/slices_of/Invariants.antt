use Rattle.std.proofs.Common.{◌≡◌, length}
use Rattle.shrink_search.proofs.search.slices_of.Given as goal

abbrev pub invariant-loop-number : goal.invariant-loop-number
invariant-loop-number l = length l.room ≡ length l.model.params
