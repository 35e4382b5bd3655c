use Rattle.std.proofs.Common.{◌≡◌, take}
use Rattle.pict_cli.specs.Steps.{written}
use Rattle.jeldroft_generate.proofs.proof_text.proof_text.Given as goal

abbrev pub invariant-loop-omission : goal.invariant-loop-omission
invariant-loop-omission l = l.text.items ≡ written l.proof.form (take l.omission-index l.proof.omissions)
