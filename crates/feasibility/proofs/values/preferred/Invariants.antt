use Rattle.std.proofs.Common.{◌≡◌, [], take, slice_index_or}
use Rattle.std.specs.List.{filter}
use Rattle.cov_model.specs.believed.Slices.{slice_values}
use Rattle.definitions.specs.believed.Demand.{is_among}
use Rattle.feasibility.proofs.values.preferred.Given as goal

-- the list has those of the values before this place that are of the slice
abbrev pub invariant-loop-v : goal.invariant-loop-v
invariant-loop-v l = l.list.items ≡ filter (is_among (slice_index_or (slice_values l.model l.slice) l.p [])) (take l.v-index l.v-items)
