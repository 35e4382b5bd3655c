use Rattle.std.proofs.Common.{◌≡◌, length}
use Rattle.refutation.specs.believed.Proofs.{format_of}
use Rattle.proof_check.proofs.TreeSteps.{first_from}
use Rattle.proof_check.proofs.trees.first_refused.Given as goal

abbrev pub invariant-loop-i : goal.invariant-loop-i
invariant-loop-i l =
    (first_from l.checker (format_of l.proof.form) l.proof.omissions l.i ≡ first_from l.checker (format_of l.proof.form) l.proof.omissions 0)
    × (length l.scratch ≡ length l.checker.params)
