use Rattle.std.proofs.Common.{◌≡◌, length, map}
use Rattle.std.specs.List.{range_with_len}
use Rattle.feasibility.specs.Tree.{doubtful_by, no_values}
use Rattle.feasibility.proofs.doubtful.all_doubtful.Given as goal

-- the lists of the constraints before this place
abbrev pub invariant-loop-i : goal.invariant-loop-i
invariant-loop-i l = record {
  count : l.count ≡ length l.rules.rules;
  cells : l.cells ≡ no_values l.rules;
  all : l.all.items ≡ map (doubtful_by l.rules) (range_with_len 1 l.i);
}
