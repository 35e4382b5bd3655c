use Rattle.std.proofs.Common.{◌≡◌, ℕ, ◌∷◌, [], None, length, set, ◌∙◌, ap, sym, subst, arith}
use Rattle.cov_model.specs.Fits.{FitsModel}
use Rattle.cov_model.specs.believed.Rows.{contains, with_value}
use Rattle.cov_model.specs.believed.Sound.{ModelView, param_at}
use Rattle.definitions.specs.believed.Refutation.{is_negative_leaf}
use Rattle.refutation.specs.Checking.{BeginsWithTrees, CheckView, LacksTrees, tuple_in}
use Rattle.refutation.proofs.TreeLemmas.{free_count, branch_stops, branch_ends, goes_more, child_is, set_clear}
use Rattle.refutation.proofs.tree_check.TreeCheck.+trees.Goals as goal

own_count : (check : CheckView) (p : ℕ) (model : ModelView) (count : ℕ) → model ≡ check.model → count ≡ length (param_at model.params p).values
    → count ≡ length (param_at check.model.params p).values
own_count check p model count same is = is ∙ ap (λ (m : ModelView). length (param_at m.params p).values) same

pub after_branch-returns-in_err-rest-clause-rest : goal.after_branch-returns-in_err-rest-clause-rest
after_branch-returns-in_err-rest-clause-rest t c =
    rw c.from_residual.ensures
    (branch_stops c.args.self.now c.args.path.now c.args.p c.loop-v.v c.args.tokens.now c.loop-v.rest.now (sym c.is_branch.ensures ∙ c.if-not-is_branch.false)
    (omega (arith, own_count c.args.self.now c.args.p c.model-model.result.now c.value_count-v-end.result c.model-model.ensures c.value_count-v-end.ensures)) c.loop-v.invariant.going
    (subst (λ path. LacksTrees c.args.self.now (with_value path c.args.p c.loop-v.v ∷ []) c.loop-v.rest.now) c.loop-v.invariant.path c.in_err-rest.ensures.rest))

pub after_branch-loop-v-preserved : goal.after_branch-loop-v-preserved
after_branch-loop-v-preserved t c = record {
  path = c.in_ok-rest.ensures.same ∙ c.loop-v.invariant.path;
  going = goes_more c.args.self.now c.args.path.now c.args.p c.loop-v.v c.args.tokens.now c.loop-v.rest.now c.in_ok-rest.rest.now
      (omega (arith, own_count c.args.self.now c.args.p c.model-model.result.now c.value_count-v-end.result c.model-model.ensures c.value_count-v-end.ensures)) c.loop-v.invariant.going
      (subst (λ path. BeginsWithTrees c.args.self.now (with_value path c.args.p c.loop-v.v ∷ []) c.loop-v.rest.now c.in_ok-rest.rest.now) c.loop-v.invariant.path c.in_ok-rest.ensures.rest);
}

pub after_branch-returns-clause-rest : goal.after_branch-returns-clause-rest
after_branch-returns-clause-rest t c =
    branch_ends c.args.self.now c.args.path.now c.args.p c.loop-v.v c.args.tokens.now c.loop-v.rest.now (sym c.is_branch.ensures ∙ c.if-not-is_branch.false)
    (omega (arith, own_count c.args.self.now c.args.p c.model-model.result.now c.value_count-v-end.result c.model-model.ensures c.value_count-v-end.ensures)) c.loop-v.invariant.going

pub after_child-after_tree-requires : goal.after_child-after_tree-requires
after_child-after_tree-requires t c =
    let m = c.args.self.now.model in
    let child = child_is c.args.self.now c.args.path.now c.args.p c.args.v c.args.outside c.args.negative c.requires.parameter c.requires.value
    c.requires.free c.requires.fits c.requires.part c.requires.outside c.requires.negative in
    let row = sym c.set_cell.ensures in (
      omega (arith, ap free_count c.set_cell.ensures, child.free),
      (
        subst (FitsModel m) row child.fits,
        (
          ap (λ path. contains path (tuple_in c.args.self.now)) c.set_cell.ensures ∙ child.part,
          child.sign ∙ ap (is_negative_leaf m (tuple_in c.args.self.now)) row,
        ),
      ),
    )

pub after_child-returns-clause-same : goal.after_child-returns-clause-same
after_child-returns-clause-same t c =
    c.clear_cell.ensures ∙ ap (λ path. set path c.args.p None) (c.in_ok-rest.ensures.same ∙ c.set_cell.ensures)
    ∙ set_clear c.args.path.now c.args.p c.args.v c.requires.free
