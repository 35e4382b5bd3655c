-- How the logic stores the tree of a predicate: as a predicate of the code. It tells a reader nothing of what
-- constraints mean.
use Rattle.std.specs.Prelude.{◌≡◌, List, [], ◌∷◌, refl}
use Rattle.std.specs.Coded.{Coded, code_by}
use Rattle.std.proofs.Common.{ap, ◌∙◌}
use denote.RawPtr.{null_ptr}
use Rattle.cov_model.specs.declared.constraint.Pred as preds
use Rattle.cov_model.specs.declared.constraint.Pred.{Pred, Term, Not'}
use Rattle.cov_model.specs.believed.Views.{PredView, PredViews, Leaf, Negated, Each, Either, End, More}
use Rattle.cov_model.specs.Views.{pred_view, preds_in, each_is, either_is}

-- a predicate of the code with this tree; the box of a negation is made up
abbrev mutual
  pub pred_from : PredView → Pred
  pred_from (Leaf term) = Term term
  pred_from (Negated view) = Not' (record { ptr = null_ptr; alloc = record { memory = record { seal = tt } }; value = tt }) (pred_from view)
  pred_from (Each views) = preds.All (preds_from views)
  pred_from (Either views) = preds.Any (preds_from views)

  pub preds_from : PredViews → List Pred
  preds_from End = []
  preds_from (More view views) = pred_from view ∷ preds_from views

-- its tree is this one
mutual
  pub pred_back : (view : PredView) → pred_view (pred_from view) ≡ view
  pred_back (Leaf term) = refl
  pred_back (Negated view) = ap Negated (pred_back view)
  pred_back (Each views) = each_is (preds_from views) ∙ ap Each (preds_back views)
  pred_back (Either views) = either_is (preds_from views) ∙ ap Either (preds_back views)

  pub preds_back : (views : PredViews) → preds_in (preds_from views) ≡ views
  preds_back End = refl
  preds_back (More view views) =
      ap (λ first. More first (preds_in (preds_from views))) (pred_back view) ∙ ap (λ rest. More view rest) (preds_back views)

-- so a code of predicates is one of trees
abbrev pub pred_code : Coded Pred → Coded PredView
pred_code code = code_by Pred code pred_from pred_view pred_back
