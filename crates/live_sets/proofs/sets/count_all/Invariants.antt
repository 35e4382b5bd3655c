use Rattle.std.proofs.Common.{◌≡◌, take}
use Rattle.live_sets.specs.Trail.{live_count}
use Rattle.live_sets.proofs.sets.count_all.Given as goal

abbrev pub invariant-loop-set : goal.invariant-loop-set
invariant-loop-set l = l.count ≡ live_count (take l.set-index l.sets)
