use Rattle.std.proofs.Common.{◌≡◌, ◌<◌, true, length, get_or, arith}
use Rattle.std.proofs.lemmas.Bool.Decides.{nat_tests}
use Rattle.std.proofs.lemmas.Grind.{common_steps}
use Rattle.cov_model.specs.believed.Rows.{is_assigned}
use Rattle.cov_model.specs.Sound.{rule_at}
use Rattle.feasibility.proofs.Naming.{member_exists, member_named}
use Rattle.feasibility.proofs.tree.SearchTree.names_earlier.Goals as goal

pub get-requires : goal.get-requires
get-requires c =
    let m = c.args.self.now.model in
    omega (
      arith,
      c.requires.fits.as_long,
      member_exists (length m.params) (rule_at m c.args.rule).body c.members_of-q-items.result.now c.loop-q.q-index
          c.members_of-q-items.ensures c.loop-q-test.true,
    )

pub returns-then-is_some : goal.returns-then-is_some
returns-then-is_some c = λ same.
    let m = c.args.self.now.model in
    let q = get_or c.members_of-q-items.result.now c.loop-q.q-index 0 in
    let below : q < c.args.p = grind (arith, nat_tests) in
    let given : is_assigned c.args.cells.now q ≡ true = grind (arith, common_steps) in
    record {
      param = q;
      below = below;
      named = member_named (length m.params) (rule_at m c.args.rule).body c.members_of-q-items.result.now c.loop-q.q-index c.members_of-q-items.ensures
          c.loop-q-test.true;
      given = given;
    }
