use Rattle.std.proofs.Common.{◌≡◌, false, take}
use Rattle.full_search.specs.Witnesses.{MarksAnew}
use Rattle.full_search.proofs.witness.Witness.unmark.Given as goal

-- the marks of the constraints before this place are cleared
abbrev pub invariant-loop-rule : goal.invariant-loop-rule
invariant-loop-rule l = record {
  row : l.self.row ≡ l.initial.self.row;
  marks : MarksAnew (take l.rule-index l.rules) (λ _. false) l.initial.self.broken l.self.broken;
}
