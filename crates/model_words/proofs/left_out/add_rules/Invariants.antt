use Rattle.std.proofs.Common.{◌≡◌, ◌++◌, ◌-◌, take}
use Rattle.std.specs.Prelude.{slice_get}
use Rattle.std.specs.List.{flat_map}
use Rattle.model_words.specs.believed.Explanations.{rule_line}
use Rattle.model_words.proofs.left_out.add_rules.Given as goal

abbrev pub invariant-loop-number : goal.invariant-loop-number
invariant-loop-number l = l.text.items ≡ l.fn.text.items ++ flat_map (λ k. rule_line l.model (slice_get l.model.rules (k - 1))) (take l.number-index l.numbers)
