use Rattle.std.proofs.Common.{◌≡◌, All, length}
use Rattle.plan_tests.proofs.models.packed.Given as goal

abbrev pub invariant-loop-first : goal.invariant-loop-first
invariant-loop-first l = All (λ row. length row ≡ 2) l.rows
