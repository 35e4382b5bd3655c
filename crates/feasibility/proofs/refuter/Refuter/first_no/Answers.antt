use Rattle.std.proofs.Common.{◌≡◌, ◌+◌, ◌∙◌, true, false, length, sym, ap, arith}
use Rattle.cov_model.specs.believed.Sound.{ModelView}
use Rattle.feasibility.specs.Live.{no_on}
use Rattle.feasibility.specs.Tree.{TreeView}
use Rattle.feasibility.proofs.Leaves.{number_found, number_passed}
use Rattle.feasibility.proofs.refuter.Refuter.first_no.Goals as goal

pub returns-then-is_no : goal.returns-then-is_no
returns-then-is_no c =
    let test = no_on c.args.self.now.model c.args.cells.now in
    let no : test (c.loop-i.i + 1) ≡ true =
    ap (λ (m : ModelView). no_on m c.args.cells.now (c.loop-i.i + 1)) (sym (ap (λ (t : TreeView). t.model) c.tree-tree.ensures)) ∙ sym c.is_no.ensures ∙ c.if-is_no.true in
    number_found test c.loop-i.i (length c.args.self.now.model.rules) (omega (arith, c.loop-i.invariant.0)) c.loop-i.invariant.1 no

pub loop-i-preserved : goal.loop-i-preserved
loop-i-preserved c =
    let test = no_on c.args.self.now.model c.args.cells.now in
    let no : test (c.loop-i.i + 1) ≡ false =
    ap (λ (m : ModelView). no_on m c.args.cells.now (c.loop-i.i + 1)) (sym (ap (λ (t : TreeView). t.model) c.tree-tree.ensures)) ∙ sym c.is_no.ensures ∙ c.if-is_no.false in
    (c.loop-i.invariant.0, number_passed test c.loop-i.i c.loop-i.invariant.1 no)
