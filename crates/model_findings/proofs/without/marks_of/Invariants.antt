use Rattle.std.proofs.Common.{◌≡◌, map, take}
use Rattle.cov_model.specs.Views.{rule_view}
use Rattle.model_findings.specs.Without.{is_free_of}
use Rattle.model_findings.proofs.without.marks_of.Given as goal

-- the constraints before this one have their marks
abbrev pub invariant-loop-rule : goal.invariant-loop-rule
invariant-loop-rule l = l.marks.items ≡ map (is_free_of l.p) (map rule_view (take l.rule-index l.rules))
