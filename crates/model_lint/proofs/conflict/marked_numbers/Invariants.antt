use Rattle.std.proofs.Common.{◌≡◌, filter, map, take}
use Rattle.model_lint.specs.Changes.{is_marked}
use Rattle.model_lint.proofs.conflict.marked_numbers.Given as goal

abbrev pub invariant-loop-rule : goal.invariant-loop-rule
invariant-loop-rule l = l.numbers ≡ filter (is_marked l.marks) (map (λ rule. rule.number) (take l.rule-index l.model.rules))
