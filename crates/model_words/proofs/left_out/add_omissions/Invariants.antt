use Rattle.std.proofs.Common.{◌≡◌, ◌++◌, map, take}
use Rattle.std.specs.List.{flat_map}
use Rattle.refutation.specs.Proofs.{omission_meant}
use Rattle.model_words.specs.believed.Explanations.{omission_lines}
use Rattle.model_words.proofs.left_out.add_omissions.Given as goal

abbrev pub invariant-loop-omission : goal.invariant-loop-omission
invariant-loop-omission l = l.text.items ≡ l.fn.text.items
    ++ flat_map (λ omission. omission_lines l.model (map omission_meant l.proof.omissions) (omission_meant omission)) (take l.omission-index l.omissions)
