use Rattle.std.proofs.Common.{◌≡◌, ℕ, ◌<◌, [], get_or, length}
use Rattle.cov_model.specs.believed.Rows.{with_value}
use Rattle.full_search.specs.Completing.{HasRow}
use Rattle.full_search.specs.Reasons.{HasNoRow}
use Rattle.full_search.specs.Searching.{HasRoom}
use Rattle.feasibility.specs.Tree.{constrained_at}
use Rattle.full_search.proofs.completing.settle.Given as goal

-- no earlier value leads to a row
abbrev pub invariant-loop-v : goal.invariant-loop-v
invariant-loop-v l = record {
  cells : l.cells ≡ l.fn.cells;
  sets : l.sets ≡ l.fn.sets;
  row : HasRow l.tree l.cells l.sets l.witness;
  saved : length l.saved ≡ length l.cells;
  room : HasRoom l.cells l.whys;
  none : (j : ℕ) → j < l.v-index → HasNoRow l.tree (with_value l.fn.cells (constrained_at l.tree.model l.i)
      (get_or (get_or l.tree.values (constrained_at l.tree.model l.i) []) j 0));
}
