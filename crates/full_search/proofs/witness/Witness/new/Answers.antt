use Rattle.std.proofs.Common.{◌∙◌, length, ap, sym, subst, arith}
use Rattle.cov_model.specs.Fits.{FitsModel}
use Rattle.definitions.specs.Laws.{GivesListed}
use Rattle.full_search.proofs.GivenRows.{filled_fits, filled_given}
use Rattle.full_search.proofs.WitnessRows.{marked_all}
use Rattle.full_search.proofs.witness.Witness.new.Goals as goal

pub mark_rule-requires-clause-fits : goal.mark_rule-requires-clause-fits
mark_rule-requires-clause-fits c =
    let tree = c.args.tree.now in
    subst (FitsModel tree.model) (sym c.loop-rule.invariant.row) (filled_fits tree.model tree.values c.assert_invariant.ensures.values)

pub returns-clause-witness : goal.returns-clause-witness
returns-clause-witness c = λ each.
    let tree = c.args.tree.now in
    let given = filled_given tree.model tree.values c.assert_invariant.ensures.values each in
    marked_all tree c.loop-rule.witness c.loop-rule.rule (subst (GivesListed tree.values) (sym c.loop-rule.invariant.row) given)
    (omega (arith, c.loop-rule.invariant.count)) c.loop-rule.invariant.marked

pub returns-clause-long : goal.returns-clause-long
returns-clause-long c =
    let tree = c.args.tree.now in
    ap length c.loop-rule.invariant.row ∙ (filled_fits tree.model tree.values c.assert_invariant.ensures.values).as_long
