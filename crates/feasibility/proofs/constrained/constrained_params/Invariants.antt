use Rattle.std.proofs.Common.{◌≡◌, length, map, filter}
use Rattle.std.specs.List.{range_with_len}
use Rattle.feasibility.specs.Tree.{is_named, no_values, undecided_by}
use Rattle.feasibility.proofs.constrained.constrained_params.Given as goal

-- the list has the constrained ones of the parameters before this one
abbrev pub invariant-loop-p : goal.invariant-loop-p
invariant-loop-p l = record {
  count : l.count ≡ length l.rules.params;
  cells : l.cells ≡ no_values l.rules;
  list : l.list.items ≡ map (undecided_by l.rules) (filter (is_named l.rules) (range_with_len 0 l.p));
}
