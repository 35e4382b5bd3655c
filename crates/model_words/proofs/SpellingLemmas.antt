-- The parts of a conjunction and of a disjunction, as they are written.
use Rattle.std.proofs.Common.{◌≡◌, ◌<◌, ◌+◌, ℕ, List, [], ◌∷◌, ◌++◌, length, take, get_or, refl, ap, sym, ◌∙◌}
use Rattle.std.proofs.lemmas.List.{take_more}
use Rattle.cov_model.specs.declared.parameter.Param.{Param}
use Rattle.cov_model.specs.declared.constraint.Pred as preds
use Rattle.cov_model.specs.declared.constraint.Pred.{Pred}
use Rattle.cov_model.specs.Views as views
use Rattle.cov_model.specs.Views.{pred_view, preds_in}
use Rattle.constraint_ast.specs.believed.Trees.{Each, Either, More, Trees}
use Rattle.constraint_ast.specs.Trees.{added, tree_of, trees_in}
use Rattle.constraint_ast.specs.declared.tree.RawPred as raws
use Rattle.constraint_ast.specs.declared.tree.RawPred.{RawPred}
use Rattle.constraint_ast.proofs.Parts as parts_of
use Rattle.model_words.specs.believed.Constraints.{pred_spelled, preds_spelled}

module _ (params : List Param) where
  pub each_spelled : (raw : List RawPred) (parts : List Pred) (pred : Pred) → pred ≡ preds.All parts → trees_in raw ≡ preds_spelled params (preds_in parts)
      → tree_of (raws.All raw) ≡ pred_spelled params (pred_view pred)
  each_spelled raw parts pred is are =
      parts_of.each_is raw ∙ ap Each are ∙ ap (pred_spelled params) (sym (ap pred_view is ∙ views.each_is parts))

  pub either_spelled : (raw : List RawPred) (parts : List Pred) (pred : Pred) → pred ≡ preds.Any parts → trees_in raw ≡ preds_spelled params (preds_in parts)
      → tree_of (raws.Any raw) ≡ pred_spelled params (pred_view pred)
  either_spelled raw parts pred is are =
      parts_of.either_is raw ∙ ap Either are ∙ ap (pred_spelled params) (sym (ap pred_view is ∙ views.either_is parts))

  -- one part more
  spelled_behind : (front : List Pred) (part : Pred)
      → preds_spelled params (preds_in (front ++ part ∷ [])) ≡ added (preds_spelled params (preds_in front)) (pred_spelled params (pred_view part))
  spelled_behind [] part = refl
  spelled_behind (first ∷ front) part = ap (λ (rest : Trees). More (pred_spelled params (pred_view first)) rest) (spelled_behind front part)

  pub one_more_spelled : (parts : List Pred) (i : ℕ) (part : Pred) (raw next : List RawPred) (item : RawPred) → i < length parts → part ≡ get_or parts i part
      → trees_in raw ≡ preds_spelled params (preds_in (take i parts)) → tree_of item ≡ pred_spelled params (pred_view part) → next ≡ raw ++ item ∷ []
      → trees_in next ≡ preds_spelled params (preds_in (take (i + 1) parts))
  one_more_spelled parts i part raw next item within at so_far is pushed =
      ap (λ list. trees_in list) pushed ∙ parts_of.one_more raw item
      ∙ ap (λ (front : Trees). added front (tree_of item)) so_far
      ∙ ap (λ tree. added (preds_spelled params (preds_in (take i parts))) tree) is
      ∙ sym (spelled_behind (take i parts) part)
      ∙ ap (λ list. preds_spelled params (preds_in list)) (sym (take_more parts i part within ∙ ap (λ x. take i parts ++ x ∷ []) (sym at)))
