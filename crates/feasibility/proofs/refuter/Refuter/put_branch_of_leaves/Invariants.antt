use Rattle.std.proofs.Common.{◌≡◌, length, map}
use Rattle.std.specs.List.{range_with_len}
use Rattle.cov_model.specs.believed.Sound.{param_at}
use Rattle.cov_model.specs.believed.Rows.{with_value}
use Rattle.feasibility.specs.Refuting.{Closes}
use Rattle.feasibility.proofs.refuter.Refuter.put_branch_of_leaves.Given as goal

-- the trees of the values before this one were added
abbrev pub invariant-loop-v : goal.invariant-loop-v
invariant-loop-v l = record {
  count : l.count ≡ length (param_at l.self.model.params l.q).values;
  cells : l.cells ≡ l.fn.cells;
  closes : Closes l.self (map (with_value l.fn.cells l.q) (range_with_len 0 l.v)) 0 l.initial.tokens l.tokens;
}
