use Rattle.std.proofs.Common.{◌≡◌, ◌<◌, length}
use Rattle.definitions.specs.believed.Search.{constrained_params}
use Rattle.feasibility.proofs.workspace.kinds_of_questions.Given as goal

abbrev pub invariant-loop-i : goal.invariant-loop-i
invariant-loop-i l = (l.count ≡ length (constrained_params l.tree.model)) × (0 < l.kinds)
