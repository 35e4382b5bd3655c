use Rattle.std.proofs.Common.{◌∙◌, List, length, map, ap, arith}
use Rattle.std.proofs.lemmas.List.{take_all}
use Rattle.cov_model.specs.declared.constraint.Rule.{Rule}
use Rattle.cov_model.specs.Views.{body_view}
use Rattle.feasibility.specs.Tree.{members}
use Rattle.feasibility.proofs.Naming.{members_seen}
use Rattle.feasibility.proofs.members.member_lists.Goals as goal

pub returns : goal.returns
returns c =
    c.loop-rule.invariant.1
    ∙ ap (λ (rules : List Rule). map (λ rule. members (length c.args.model.now.params) (body_view rule.body)) rules)
    (take_all c.loop-rule.rule-index c.as_slice-rule-items.result.now (omega arith) ∙ c.as_slice-rule-items.ensures)
    ∙ members_seen c.args.model.now c.rules.result.now c.rules.ensures.value
