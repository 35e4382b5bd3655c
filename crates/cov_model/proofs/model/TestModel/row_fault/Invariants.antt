use Rattle.std.proofs.Common.{◌≡◌, not, drop, find}
use Rattle.cov_model.specs.believed.Meaning.{body_holds}
use Rattle.cov_model.proofs.model.TestModel.row_fault.Given as goal

-- no constraint before this place is false
abbrev pub invariant-loop-rule : goal.invariant-loop-rule
invariant-loop-rule l =
    find (λ rule. not (body_holds l.self rule.body l.row)) l.self.rules ≡ find (λ rule. not (body_holds l.self rule.body l.row))
    (drop l.rule-index l.self.rules)
