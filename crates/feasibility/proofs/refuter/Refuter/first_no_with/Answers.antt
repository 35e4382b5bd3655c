use Rattle.std.proofs.Common.{◌∙◌, None, find, get_or, set, ap, sym, subst}
use Rattle.cov_model.specs.believed.Rows.{with_value}
use Rattle.feasibility.specs.Live.{AreRules, no_on}
use Rattle.feasibility.proofs.LeastRules.{undecided_least}
use Rattle.feasibility.proofs.Naming.{undecided_exist}
use Rattle.feasibility.proofs.Nodes.{none_of, set_clear}
use Rattle.feasibility.proofs.refuter.Refuter.first_no_with.Goals as goal

pub first_no_of-rule-requires-clause-exist : goal.first_no_of-rule-requires-clause-exist
first_no_of-rule-requires-clause-exist c =
    subst (AreRules c.args.self.now.model) (sym c.undecided-rules.ensures)
    (undecided_exist c.args.self.now.model c.args.q c.args.v c.assert_invariant.ensures.sound)

pub returns-clause-least : goal.returns-clause-least
returns-clause-least c =
    let m = c.args.self.now.model in
    c.first_no_of-rule.ensures
    ∙ ap (λ cells. find (no_on m cells) c.undecided-rules.result.now) c.set_cell.ensures
    ∙ ap (find (no_on m (with_value c.args.cells.now c.args.q c.args.v))) c.undecided-rules.ensures
    ∙ undecided_least m c.args.cells.now c.args.q c.args.v c.assert_invariant.ensures.sound c.requires.path.fits.as_long c.requires.parameter
    c.requires.unbroken

pub returns-clause-same : goal.returns-clause-same
returns-clause-same c =
    c.clear_cell.ensures ∙ ap (λ cells. set cells c.args.q None) c.set_cell.ensures
    ∙ set_clear c.args.cells.now c.args.q c.args.v (none_of (get_or c.args.cells.now c.args.q None) c.requires.free)
