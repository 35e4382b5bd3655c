use Rattle.std.proofs.Common.{◌≡◌, length}
use Rattle.definitions.specs.believed.Search.{constrained_params}
use Rattle.live_sets.specs.Trail.{IsSince}
use Rattle.full_search.specs.Completing.{HasRow, IsSettled}
use Rattle.full_search.specs.Searching.{HasRoom}
use Rattle.full_search.proofs.completing.settle_each.Given as goal

abbrev pub invariant-loop-i : goal.invariant-loop-i
invariant-loop-i l = record {
  count : l.count ≡ length (constrained_params l.tree.model);
  settled : IsSettled l.tree l.i l.fn.cells l.cells;
  row : HasRow l.tree l.cells l.sets l.witness;
  since : IsSince l.fn.sets l.sets;
  saved : length l.saved ≡ length l.cells;
  room : HasRoom l.cells l.whys;
}
