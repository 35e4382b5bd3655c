use Rattle.std.proofs.Common.{◌≡◌, ◌≤◌, length, take}
use Rattle.std.specs.Prelude.{vec_capacity, vec_len}
use Rattle.pict_cli.specs.Steps.{written}
use Rattle.pict_cli.proofs.proof.proof_text.Given as goal

abbrev pub invariant-loop-omission : goal.invariant-loop-omission
invariant-loop-omission l =
    (l.text.items ≡ written l.proof.form (take l.omission-index l.proof.omissions))
    × (vec_len l.text ≡ length l.text.items) × (length (written l.proof.form l.proof.omissions) ≤ vec_capacity l.text)
