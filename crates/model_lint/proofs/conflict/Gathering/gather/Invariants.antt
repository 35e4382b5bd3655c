use Rattle.std.proofs.Common.{◌≡◌, true, length}
use Rattle.definitions.specs.believed.Completion.{is_extendable}
use Rattle.model_lint.specs.Changes.{IsTestOf, is_marked}
use Rattle.model_lint.specs.believed.Tests.{part}
use Rattle.model_lint.proofs.ThinMarks.{unmarked}
use Rattle.model_lint.proofs.conflict.Gathering.gather.Given as goal

abbrev pub invariant-marking : goal.invariant-marking
invariant-marking g l =
    (length l.row ≡ length l.self.model.now.params) × (length l.marks ≡ length l.self.model.now.rules)
    × (l.found ≡ is_extendable (part l.self.model.now (is_marked l.marks)) l.self.slice l.self.cells.now)
    × (l.found ≡ true → IsTestOf (part l.self.model.now (is_marked l.marks)) l.self.slice l.self.cells.now l.row)

abbrev pub decreases-marking : goal.decreases-marking
decreases-marking g l = unmarked l.marks
