use Rattle.std.proofs.Common.{◌≡◌, map, take}
use Rattle.cov_model.specs.Sound.{rule_at}
use Rattle.feasibility.specs.Tree.{doubtful, no_values}
use Rattle.feasibility.proofs.doubtful.doubtful_lists.Given as goal

-- the lists of the parameters before this place
abbrev pub invariant-loop-q : goal.invariant-loop-q
invariant-loop-q l = record {
  cells : l.cells ≡ no_values l.rules;
  lists : l.lists ≡ map (doubtful l.rules (rule_at l.rules l.rule).body) (take l.q-index l.named);
}
