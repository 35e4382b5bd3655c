use Rattle.std.proofs.Common.{◌∙◌, not, length, is_some, ap, sym, arith}
use Rattle.cov_model.specs.Sound.{rule_at}
use Rattle.feasibility.proofs.Naming.{member_exists}
use Rattle.full_search.proofs.FreeMembers.{member_can, members_given}
use Rattle.full_search.proofs.branching.free_member.Goals as goal

pub get-requires : goal.get-requires
get-requires c =
    let m = c.args.tree.now.model in
    omega (
      arith,
      member_exists (length m.params) (rule_at m c.args.rule).body c.members_of-q-items.result.now c.loop-q.q-index c.members_of-q-items.ensures
          c.loop-q-test.true,
      c.requires.long,
    )

pub returns-then-is_none : goal.returns-then-is_none
returns-then-is_none c =
    member_can c.args.tree.now.model c.args.cells.now c.args.rule c.loop-q.q-index c.members_of-q-items.result.now c.requires.first c.requires.last
    c.members_of-q-items.ensures c.loop-q-test.true (ap is_some (sym c.get.ensures) ∙ c.is_none.ensures ∙ ap not c.if-is_none.true)

pub returns : goal.returns
returns c =
    members_given c.args.tree.now.model c.args.cells.now c.args.rule c.members_of-q-items.result.now c.members_of-q-items.ensures
    (λ i low. c.loop-q.invariant i (omega (arith, low, c.loop-q-test.false)))
