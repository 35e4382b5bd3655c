use Rattle.std.proofs.Common.{◌≡◌, length, map}
use Rattle.std.specs.List.{range_with_len}
use Rattle.cov_model.specs.believed.Sound.{param_at}
use Rattle.feasibility.specs.Tree.{undecided}
use Rattle.feasibility.proofs.constrained.undecided_lists.Given as goal

-- the lists of the values before this one
abbrev pub invariant-loop-v : goal.invariant-loop-v
invariant-loop-v l = record {
  count : l.count ≡ length (param_at l.rules.params l.p).values;
  cells : l.cells ≡ l.initial.cells;
  lists : l.lists ≡ map (undecided l.rules l.p) (range_with_len 0 l.v);
}
