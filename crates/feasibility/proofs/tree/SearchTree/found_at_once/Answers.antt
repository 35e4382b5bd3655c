use Rattle.std.proofs.Common.{◌∙◌, not, sym, ap}
use Rattle.feasibility.specs.Answers.{searched}
use Rattle.feasibility.proofs.SafeValues.{safe_search, within_most}
use Rattle.feasibility.proofs.tree.SearchTree.found_at_once.Goals as goal

pub returns-clause-found : goal.returns-clause-found
returns-clause-found c =
    ap not c.breaks_a_rule.ensures
    ∙ (safe_search c.args.self.now.model c.args.self.now.values c.in_ok-most.most c.args.cells.now c.assert_invariant.ensures.sound
    c.assert_invariant.ensures.values c.requires.node c.in_ok-most.ensures c.requires.fits.as_long).found

pub returns-clause-cost : goal.returns-clause-cost
returns-clause-cost c =
    within_most c.args.effort c.in_ok-most.most (searched c.args.self.now c.args.cells.now).cost (sym c.is_above.ensures ∙ c.if-is_above.false)
    (safe_search c.args.self.now.model c.args.self.now.values c.in_ok-most.most c.args.cells.now c.assert_invariant.ensures.sound
    c.assert_invariant.ensures.values c.requires.node c.in_ok-most.ensures c.requires.fits.as_long).few
