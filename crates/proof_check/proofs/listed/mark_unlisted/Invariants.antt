use Rattle.std.proofs.Common.{take}
use Rattle.proof_check.specs.Left.{AreLeft}
use Rattle.proof_check.proofs.listed.mark_unlisted.Given as goal

abbrev pub invariant-loop-omission : goal.invariant-loop-omission
invariant-loop-omission l = AreLeft l.model (take l.omission-index l.proof.omissions) l.left
