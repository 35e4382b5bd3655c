use Rattle.std.proofs.Common.{◌≡◌, ◌<◌, length}
use Rattle.feasibility.specs.Path.{filled}
use Rattle.feasibility.specs.Tree.{no_values}
use Rattle.full_search.proofs.WitnessRows.{IsMarkedBelow}
use Rattle.full_search.proofs.witness.Witness.new.Given as goal

-- the constraints before this one are marked
abbrev pub invariant-loop-rule : goal.invariant-loop-rule
invariant-loop-rule l = record {
  count : l.count ≡ length l.tree.model.rules;
  row : l.witness.row ≡ filled l.tree.values (no_values l.tree.model);
  some : 0 < l.rule;
  marked : IsMarkedBelow l.tree.model l.witness l.rule;
}
