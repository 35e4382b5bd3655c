use Rattle.std.proofs.Common.{◌≡◌, length, map, take}
use Rattle.cov_model.specs.Views.{body_view}
use Rattle.feasibility.specs.Tree.{members}
use Rattle.feasibility.proofs.members.member_lists.Given as goal

-- the lists of the constraints before this place
abbrev pub invariant-loop-rule : goal.invariant-loop-rule
invariant-loop-rule l = (l.count ≡ length l.model.params) × (l.lists ≡ map (λ rule. members (length l.model.params) (body_view rule.body))
    (take l.rule-index l.rule-items))
