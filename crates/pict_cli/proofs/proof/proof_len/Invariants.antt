use Rattle.std.proofs.Common.{◌≡◌, length, take}
use Rattle.pict_cli.specs.Steps.{written}
use Rattle.pict_cli.proofs.proof.proof_len.Given as goal

abbrev pub invariant-loop-listed : goal.invariant-loop-listed
invariant-loop-listed l = l.count ≡ length (written l.proof.form (take l.listed-index l.proof.omissions))
