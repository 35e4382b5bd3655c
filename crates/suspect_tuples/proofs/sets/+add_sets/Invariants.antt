use Rattle.std.proofs.Common.{◌≡◌, ◌++◌, [], drop, map}
use Rattle.cov_model.specs.believed.Valid.{param_numbers}
use Rattle.definitions.specs.believed.Demand.{choose}
use Rattle.suspect_tuples.specs.Edges.{edges_behind, tuples_behind}
use Rattle.suspect_tuples.specs.Told.{found_seen}
use Rattle.suspect_tuples.proofs.sets.+add_sets.Given as goal

abbrev pub decreases-add_sets : goal.decreases-add_sets
decreases-add_sets l = l.more

abbrev pub invariant-loop-param : goal.invariant-loop-param
invariant-loop-param l = record {
  found : map found_seen l.found ++ edges_behind l.passing l.failing [] (tuples_behind l.model l.initial.set.items (choose l.more (drop l.param (param_numbers l.model))))
      ≡ map found_seen l.initial.found
      ++ edges_behind l.passing l.failing [] (tuples_behind l.model l.initial.set.items (choose l.more (drop l.first (param_numbers l.model))));
  set : l.set.items ≡ l.initial.set.items;
}
