use Rattle.std.proofs.Common.{◌≡◌, true, subst}
use Rattle.std.specs.List.{list_all}
use Rattle.refutation.specs.Proofs.{meant}
use Rattle.feasibility.specs.KeptTrees.{is_free}
use Rattle.feasibility.specs.Recurring.{AgreeOnNamed}
use Rattle.feasibility.specs.Tree.{TreeView}
use Rattle.feasibility.proofs.KeptTrees.{tree_again}
use Rattle.feasibility.proofs.refuter.Refuter.can_reuse_in_form_one.Goals as goal

pub returns : goal.returns
returns c free =
    let r = c.args.self.now in
    let kept = c.args.kept.now in
    let agree = subst (AgreeOnNamed r.model kept.cells) c.requires.tuple
    (subst (λ (t : TreeView). AgreeOnNamed t.model kept.cells c.args.cells.now) c.tree.ensures
    (c.agree_on_named.ensures c.if-not-agree_on_named.false)) in
    tree_again r kept c.assert_invariant.ensures.values c.requires.node c.requires.form c.requires.kept c.if-not-kept.false agree
    (subst (λ cells. list_all (λ token. is_free cells (meant token)) kept.tree ≡ true) c.requires.tuple (c.branches_freely.ensures free))
