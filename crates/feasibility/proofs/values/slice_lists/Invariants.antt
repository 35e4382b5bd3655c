use Rattle.std.proofs.Common.{◌≡◌, length, take}
use Rattle.cov_model.specs.believed.Slices.{slice_values}
use Rattle.feasibility.proofs.values.slice_lists.Given as goal

-- the lists of the parameters before this one
abbrev pub invariant-loop-p : goal.invariant-loop-p
invariant-loop-p l = (l.count ≡ length l.model.params) × (l.lists ≡ take l.p (slice_values l.model l.slice))
