use Rattle.std.proofs.Common.{◌≡◌, take}
use Rattle.full_search.specs.Witnesses.{MarksAnew, is_broken_on}
use Rattle.full_search.proofs.witness.Witness.mark.Given as goal

-- the constraints before this place are marked anew
abbrev pub invariant-loop-rule : goal.invariant-loop-rule
invariant-loop-rule l = record {
  row : l.self.row ≡ l.initial.self.row;
  marks : MarksAnew (take l.rule-index l.rules) (is_broken_on l.tree.model l.initial.self.row) l.initial.self.broken l.self.broken;
}
