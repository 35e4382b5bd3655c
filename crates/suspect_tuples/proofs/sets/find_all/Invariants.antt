use Rattle.std.proofs.Common.{◌≡◌, [], map}
use Rattle.std.specs.List.{flat_map, range_with_len}
use Rattle.cov_model.specs.believed.Valid.{param_numbers}
use Rattle.definitions.specs.believed.Demand.{choose}
use Rattle.suspect_tuples.specs.Edges.{edges_behind}
use Rattle.suspect_tuples.specs.believed.Suspects.{tuples_on}
use Rattle.suspect_tuples.specs.Told.{found_seen}
use Rattle.suspect_tuples.proofs.sets.find_all.Given as goal

abbrev pub invariant-loop-fewer : goal.invariant-loop-fewer
invariant-loop-fewer l = record {
  found : map found_seen l.found
      ≡ edges_behind l.passing l.failing [] (flat_map (tuples_on l.model) (flat_map (λ k. choose k (param_numbers l.model)) (range_with_len 1 l.fewer)));
  set : l.set.items ≡ [];
}
