use Rattle.std.proofs.Common.{◌≡◌, map, take}
use Rattle.model_lint.specs.Changes.{kept_alone}
use Rattle.model_lint.proofs.changing.kept_alone.Given as goal

abbrev pub invariant-loop-mark : goal.invariant-loop-mark
invariant-loop-mark l = l.changes.items ≡ map kept_alone (take l.mark-index l.marks)
