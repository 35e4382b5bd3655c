use Rattle.std.proofs.Common.{◌≡◌, map, take}
use Rattle.cov_model.specs.Views.{rule_view}
use Rattle.model_lint.specs.Changes.{changed_rule}
use Rattle.model_lint.proofs.changing.changed_rules.Given as goal

abbrev pub invariant-loop-rule : goal.invariant-loop-rule
invariant-loop-rule l = map rule_view l.list ≡ map (changed_rule l.changes) (map rule_view (take l.rule-index l.rules))
