use Rattle.std.proofs.Common.{◌≡◌, ◌++◌, length, map}
use Rattle.suspect_tuples.specs.Edges.{edges_behind}
use Rattle.suspect_tuples.specs.Told.{found_seen}
use Rattle.suspect_tuples.proofs.WalkLemmas.{tuples_up_to}
use Rattle.suspect_tuples.proofs.edges.+add_edges.Given as goal

abbrev pub decreases-add_edges : goal.decreases-add_edges
decreases-add_edges l = length l.set.now

abbrev pub invariant-loop-value : goal.invariant-loop-value
invariant-loop-value l = record {
  found : map found_seen l.found ≡ map found_seen l.initial.found ++ edges_behind l.passing l.rows l.initial.before.items (tuples_up_to l.model l.param l.rest l.value);
  before : l.before.items ≡ l.initial.before.items;
}
