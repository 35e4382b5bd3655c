use Rattle.std.proofs.Common.{◌≡◌, ◌∙◌, true, false, get_or, sym, ap}
use Rattle.cov_model.specs.believed.Sound.{ModelView}
use Rattle.feasibility.specs.Live.{no_on}
use Rattle.feasibility.specs.Tree.{TreeView}
use Rattle.feasibility.proofs.Leaves.{item_found, item_passed}
use Rattle.feasibility.proofs.refuter.Refuter.first_no_of.Goals as goal

pub returns-then-is_no : goal.returns-then-is_no
returns-then-is_no c =
    let rule = get_or c.args.rules.now c.loop-rule.rule-index 0 in
    let no : no_on c.args.self.now.model c.args.cells.now rule ≡ true =
    ap (λ (m : ModelView). no_on m c.args.cells.now rule) (sym (ap (λ (t : TreeView). t.model) c.tree-tree.ensures)) ∙ sym c.is_no.ensures
    ∙ c.if-is_no.true in
    item_found (no_on c.args.self.now.model c.args.cells.now) c.args.rules.now c.loop-rule.rule-index c.loop-rule-test.true c.loop-rule.invariant no

pub loop-rule-preserved : goal.loop-rule-preserved
loop-rule-preserved c =
    let rule = get_or c.args.rules.now c.loop-rule.rule-index 0 in
    let no : no_on c.args.self.now.model c.args.cells.now rule ≡ false =
    ap (λ (m : ModelView). no_on m c.args.cells.now rule) (sym (ap (λ (t : TreeView). t.model) c.tree-tree.ensures)) ∙ sym c.is_no.ensures
    ∙ c.if-is_no.false in
    item_passed (no_on c.args.self.now.model c.args.cells.now) c.args.rules.now c.loop-rule.rule-index c.loop-rule-test.true c.loop-rule.invariant no
