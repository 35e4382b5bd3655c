use Rattle.std.proofs.Common.{◌≡◌, ◌∙◌, ◌<◌, ℕ, List, false, length, sym, ap, arith}
use Rattle.std.proofs.lemmas.Bool.Decides.{nat_tests}
use Rattle.std.proofs.lemmas.Grind.{common_steps}
use Rattle.cov_model.specs.believed.Rows.{is_assigned}
use Rattle.cov_model.specs.Sound.{rule_at}
use Rattle.feasibility.specs.Tree.{doubtful}
use Rattle.feasibility.proofs.TwoFree.{free_of_fewer}
use Rattle.feasibility.proofs.tree.SearchTree.is_free.Goals as goal

pub returns-then-is_none : goal.returns-then-is_none
returns-then-is_none c = λ fewer.
    let m = c.args.self.now.model in
    let unset : is_assigned c.args.cells.now c.args.q ≡ false = grind (arith, common_steps) in
    let long = ap (λ (list : List ℕ). length list)
    (c.doubtful_of.ensures ∙ ap (doubtful m (rule_at m c.args.rule).body) (sym c.requires.named)) in
    let less : length c.doubtful_of.result.now < c.count_of.result = grind (arith, nat_tests) in
    free_of_fewer m c.args.rule c.args.q c.args.cells.now c.requires.parameter unset (omega (arith, less, long, c.count_of.ensures))
