use Rattle.std.proofs.Common.{◌≡◌}
use Rattle.cov_model.specs.Views.{body_view}
use Rattle.feasibility.specs.Tree.{members}
use Rattle.feasibility.proofs.members.members.Given as goal

-- the list has those of the parameters before this one that the constraint names
abbrev pub invariant-loop-p : goal.invariant-loop-p
invariant-loop-p l = l.list.items ≡ members l.p (body_view l.body)
