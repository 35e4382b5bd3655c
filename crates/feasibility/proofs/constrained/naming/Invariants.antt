use Rattle.std.proofs.Common.{◌≡◌, map, take}
use Rattle.std.specs.List.{filter}
use Rattle.cov_model.specs.Views.{body_view}
use Rattle.definitions.specs.believed.Demand.{is_among}
use Rattle.definitions.specs.believed.Search.{body_params}
use Rattle.feasibility.proofs.constrained.naming.Given as goal

-- the list has the numbers of those of the constraints before this place that name the parameter
abbrev pub invariant-loop-rule : goal.invariant-loop-rule
invariant-loop-rule l = l.list.items ≡ map (λ rule. rule.number) (filter (λ rule. is_among (body_params (body_view rule.body)) l.p)
    (take l.rule-index l.rule-items))
