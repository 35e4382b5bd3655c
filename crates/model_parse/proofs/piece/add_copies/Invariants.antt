use Rattle.std.proofs.Common.{◌≡◌, map, drop}
use Rattle.model_parse.specs.Steps.{and_each}
use Rattle.model_parse.specs.ValueSteps.{add_value}
use Rattle.model_parse.proofs.piece.add_copies.Given as goal

abbrev pub invariant-loop-value : goal.invariant-loop-value
invariant-loop-value l = and_each (add_value l.fold l.line) l.read (map (λ v. v) (drop l.value-index l.values)) ≡ and_each (add_value l.fold l.line) l.initial.read (map (λ v. v) l.values)
