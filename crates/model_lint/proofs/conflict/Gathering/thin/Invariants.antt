use Rattle.std.proofs.Common.{◌≡◌, length}
use Rattle.model_lint.specs.Marks.{IsThinTo}
use Rattle.model_lint.proofs.conflict.Gathering.thin.Given as goal

abbrev pub invariant-loop-i : goal.invariant-loop-i
invariant-loop-i g l =
    IsThinTo l.self.model.now l.self.slice l.self.cells.now l.marks l.i × (length l.row ≡ length l.self.model.now.params) × (length l.marks ≡ length l.initial.marks)
