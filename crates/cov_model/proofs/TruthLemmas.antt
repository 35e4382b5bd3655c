-- What is known of IN lists, and the views of predicates and of constraints.
use Rattle.std.proofs.Common.{◌≡◌, ℕ, Bool, true, false, ◌&&◌, if◌then◌else◌, ◌∙◌, sym, ap, subst, List, [], ◌∷◌, Option, All}
use Rattle.std.proofs.lemmas.List.Elements.{All-nil, All-cons, All-head, All-tail}
use Rattle.std.specs.List.{list_any}
use Rattle.std.specs.Ordering.{is_eq}
use Rattle.cov_model.specs.declared.truth.Truth.TheVariants.{No, Unknown}
use Rattle.cov_model.specs.declared.constraint.Literal.{Literal}
use Rattle.cov_model.specs.declared.constraint.Term.TheVariants.{OneOf}
use Rattle.cov_model.specs.declared.constraint.Pred.{Pred}
use Rattle.cov_model.specs.declared.constraint.Pred as preds
use Rattle.cov_model.specs.declared.parameter.Param.{Param}
use Rattle.cov_model.specs.Views.{pred_view, preds_in, each_is, either_is}
use Rattle.cov_model.specs.believed.Sound.{ModelView, IsSoundPred, AreSoundPreds, param_at, first_name}
use Rattle.cov_model.specs.believed.Rows.{is_assigned}
use Rattle.cov_model.specs.believed.Meaning.{given_value, operand, operand_of, literal_order, term_holds}
use Rattle.cov_model.specs.believed.Kleene.{known, term_truth, pred_truth, all_truth, any_truth}

-- no literal of an IN list equals the value
pub term_truth-OneOf_none : (m : ModelView) (p : ℕ) (literals : List Literal) (cells : List (Option ℕ)) (numeric : Bool) (name : List ℕ)
    → is_assigned cells p ≡ true → numeric ≡ (param_at m.params p).numeric → name ≡ first_name (given_value m cells p)
    → list_any (λ literal. is_eq (literal_order m.fold (operand_of numeric name) literal)) literals ≡ false
    → No ≡ term_truth m (OneOf p literals) cells
term_truth-OneOf_none m p literals cells numeric name assigned same_kind same_name none =
    let found : list_any (λ literal. is_eq (literal_order m.fold (operand m cells p) literal)) literals ≡ false =
    subst (λ (n : List ℕ). list_any (λ literal. is_eq (literal_order m.fold (operand_of (param_at m.params p).numeric n) literal)) literals ≡ false) same_name
    (subst (λ (k : Bool). list_any (λ literal. is_eq (literal_order m.fold (operand_of k name) literal)) literals ≡ false) same_kind none) in
    sym (ap (λ (b : Bool). if b && true then known (term_holds m (OneOf p literals) cells) else Unknown) assigned ∙ ap known found)

parts_sound : (params : List Param) (parts : List Pred) → AreSoundPreds params (preds_in parts) → All (λ part. IsSoundPred params (pred_view part)) parts
parts_sound params [] sound = All-nil (λ part. IsSoundPred params (pred_view part))
parts_sound params (part ∷ parts) sound = All-cons (λ part. IsSoundPred params (pred_view part)) part parts sound.0 (parts_sound params parts sound.1)

pub each_sound : (params : List Param) (pred : Pred) (parts : List Pred) → pred ≡ preds.All parts → IsSoundPred params (pred_view pred)
    → All (λ part. IsSoundPred params (pred_view part)) parts
each_sound params pred parts is sound = parts_sound params parts (subst (IsSoundPred params) (ap pred_view is ∙ each_is parts) sound)

pub either_sound : (params : List Param) (pred : Pred) (parts : List Pred) → pred ≡ preds.Any parts → IsSoundPred params (pred_view pred)
    → All (λ part. IsSoundPred params (pred_view part)) parts
either_sound params pred parts is sound = parts_sound params parts (subst (IsSoundPred params) (ap pred_view is ∙ either_is parts) sound)

pub each_truth : (m : ModelView) (pred : Pred) (parts : List Pred) (cells : List (Option ℕ)) → pred ≡ preds.All parts
    → pred_truth m (pred_view pred) cells ≡ all_truth m (preds_in parts) cells
each_truth m pred parts cells is = ap (λ view. pred_truth m view cells) (ap pred_view is ∙ each_is parts)

pub either_truth : (m : ModelView) (pred : Pred) (parts : List Pred) (cells : List (Option ℕ)) → pred ≡ preds.Any parts
    → pred_truth m (pred_view pred) cells ≡ any_truth m (preds_in parts) cells
either_truth m pred parts cells is = ap (λ view. pred_truth m view cells) (ap pred_view is ∙ either_is parts)

sound_parts : (params : List Param) (parts : List Pred) → All (λ part. IsSoundPred params (pred_view part)) parts → AreSoundPreds params (preds_in parts)
sound_parts params [] sound = tt
sound_parts params (part ∷ parts) sound =
    (All-head (λ pred. IsSoundPred params (pred_view pred)) part parts sound, sound_parts params parts (All-tail (λ pred. IsSoundPred params (pred_view pred)) part parts sound))

-- and the other way
pub sound_each : (params : List Param) (parts : List Pred) → All (λ part. IsSoundPred params (pred_view part)) parts
    → IsSoundPred params (pred_view (preds.All parts))
sound_each params parts sound = subst (IsSoundPred params) (sym (each_is parts)) (sound_parts params parts sound)

pub sound_either : (params : List Param) (parts : List Pred) → All (λ part. IsSoundPred params (pred_view part)) parts
    → IsSoundPred params (pred_view (preds.Any parts))
sound_either params parts sound = subst (IsSoundPred params) (sym (either_is parts)) (sound_parts params parts sound)
