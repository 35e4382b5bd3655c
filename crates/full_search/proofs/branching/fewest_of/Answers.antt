use Rattle.std.proofs.Common.{◌∙◌, not, length, is_some, ap, sym, subst, arith}
use Rattle.cov_model.specs.Sound.{rule_at}
use Rattle.feasibility.proofs.Naming.{member_exists}
use Rattle.full_search.specs.Branching.{CanBranch}
use Rattle.full_search.proofs.FreeMembers.{constrained_low, member_can}
use Rattle.full_search.proofs.branching.fewest_of.Goals as goal
use Rattle.full_search.proofs.branching.fewest_of.Goals.{then-is_none+then-count, else-is_none}

pub get-requires : goal.get-requires
get-requires c =
    let m = c.args.tree.now.model in
    omega (
      arith,
      member_exists (length m.params) (rule_at m c.args.rule).body c.members_of-q-items.result.now c.loop-q.q-index c.members_of-q-items.ensures
          c.loop-q-test.true,
      c.requires.long,
    )

pub count-requires : goal.count-requires
count-requires c =
    let m = c.args.tree.now.model in
    omega (
      arith,
      member_exists (length m.params) (rule_at m c.args.rule).body c.members_of-q-items.result.now c.loop-q.q-index c.members_of-q-items.ensures
          c.loop-q-test.true,
      c.requires.shape.as_many,
    )

pub count-requires-then-is_none : goal.count-requires-then-is_none
count-requires-then-is_none c =
    omega (arith, constrained_low c.args.tree.now.model c.loop-q.best c.loop-q.invariant.named, c.requires.shape.as_many)

pub loop-q-preserved : goal.loop-q-preserved
loop-q-preserved c =
    let m = c.args.tree.now.model in
    elim c.if-is_none.branch [
      | then-is_none+then-count w ↦
          subst (CanBranch m c.args.cells.now) (sym w.best-is)
          (member_can m c.args.cells.now c.args.rule c.loop-q.q-index c.members_of-q-items.result.now c.requires.first c.requires.last
          c.members_of-q-items.ensures c.loop-q-test.true (ap is_some (sym c.get.ensures) ∙ c.is_none.ensures ∙ ap not w.if-is_none.true))
      | else-is_none w ↦ subst (CanBranch m c.args.cells.now) (sym w.best-is) c.loop-q.invariant
    ]
