use Rattle.std.proofs.Common.{◌≡◌, ◌-◌, ◌+◌, ◌*◌, drop, length, map}
use Rattle.std.specs.List.{range_with_len, sum_by}
use Rattle.cov_model.specs.believed.Sound.{param_at}
use Rattle.cov_model.specs.believed.Rows.{with_value}
use Rattle.definitions.specs.believed.Search.{constrained_params}
use Rattle.feasibility.specs.Refuting.{Closes, value_cost}
use Rattle.feasibility.proofs.refuter.Refuter.+closes.Given as goal

abbrev pub decreases-close_node : goal.decreases-close_node
decreases-close_node l = 3 * (length (constrained_params l.self.now.model) - l.i) + 2

abbrev pub decreases-close_value : goal.decreases-close_value
decreases-close_value l = 3 * (length (constrained_params l.self.now.model) - l.i) + 1

abbrev pub decreases-close_live : goal.decreases-close_live
decreases-close_live l = 3 * (length (constrained_params l.self.now.model) - l.i)

-- the trees of the values before this one were added
abbrev pub invariant-close_node-loop-v : goal.invariant-close_node-loop-v
invariant-close_node-loop-v l = record {
  count : l.count ≡ length (param_at l.self.model.params l.p).values;
  cells : l.cells ≡ l.fn.cells;
  sets : l.sets ≡ l.fn.sets;
  closes : Closes l.self (map (with_value l.fn.cells l.p) (range_with_len 0 l.v))
      (sum_by (value_cost l.self (drop (l.i + 1) (constrained_params l.self.model)) l.fn.cells l.p) (range_with_len 0 l.v)) l.initial.tokens l.tokens;
}
