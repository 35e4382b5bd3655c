use Rattle.std.proofs.Common.{rules, arith, All, subst, sym}
use Rattle.cov_model.specs.declared.constraint.Pred.{the_lemmas}
use Rattle.cov_model.specs.believed.Sound.{IsSoundPred}
use Rattle.cov_model.specs.Views.{pred_view}
use Rattle.cov_model.proofs.TruthLemmas.{each_sound, each_truth, either_sound, either_truth}
use Rattle.cov_model.proofs.model.TestModel.+eval.Goals as goal

pub pred_truth-all_truth-requires : goal.pred_truth-all_truth-requires
pred_truth-all_truth-requires t c = (
  first_of (search (rules, the_lemmas), grind (arith, the_lemmas)),
  (
    subst (All (λ part. IsSoundPred c.args.self.now.params (pred_view part))) (sym c.as_slice.ensures)
        (each_sound c.args.self.now.params c.args.pred.now c.in-All.parts c.in-All.is c.requires.sound),
    c.requires.fits,
  ),
)

pub pred_truth-any_truth-requires : goal.pred_truth-any_truth-requires
pred_truth-any_truth-requires t c = (
  first_of (search (rules, the_lemmas), grind (arith, the_lemmas)),
  (
    subst (All (λ part. IsSoundPred c.args.self.now.params (pred_view part))) (sym c.as_slice-in-Any.ensures)
        (either_sound c.args.self.now.params c.args.pred.now c.in-Any.parts c.in-Any.is c.requires.sound),
    c.requires.fits,
  ),
)

pub pred_truth-returns-in-All : goal.pred_truth-returns-in-All
pred_truth-returns-in-All t c = let e = each_truth c.args.self.now c.args.pred.now c.in-All.parts c.args.cells.now c.in-All.is in cc

pub pred_truth-returns-in-Any : goal.pred_truth-returns-in-Any
pred_truth-returns-in-Any t c = let e = either_truth c.args.self.now c.args.pred.now c.in-Any.parts c.args.cells.now c.in-Any.is in cc
