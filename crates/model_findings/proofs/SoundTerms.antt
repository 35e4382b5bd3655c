-- The terms of a sound constraint are sound.
use Rattle.std.proofs.Common.{◌≡◌, ◌∙◌, ◌++◌, All, Bor, List, [], ap, arith, map, subst, sym}
use Rattle.std.proofs.lemmas.List.Elements.{All-append, All-push}
use Rattle.cov_model.specs.declared.constraint.Term.{Term}
use Rattle.cov_model.specs.declared.parameter.Param.{Param}
use Rattle.cov_model.specs.believed.Sound.{AreSoundPreds, IsSoundBody, IsSoundPred, IsSoundTerm}
use Rattle.cov_model.specs.believed.Views.{PredView, PredViews, Leaf, Negated, Each, Either, End, More, BodyView, Plain, IfThen, IfElse}
use Rattle.model_findings.specs.believed.Terms.{terms_in, terms_in_each, terms_of}

nothing_sound : (params : List Param) → All (IsSoundTerm params) []
nothing_sound params k d within = absurd (omega (arith, within))

mutual
  pred_sound : (params : List Param) (pred : PredView) → IsSoundPred params pred → All (IsSoundTerm params) (terms_in pred)
  pred_sound params (Leaf term) sound = All-push (IsSoundTerm params) [] term (nothing_sound params) sound
  pred_sound params (Negated inner) sound = pred_sound params inner sound
  pred_sound params (Each parts) sound = preds_sound params parts sound
  pred_sound params (Either parts) sound = preds_sound params parts sound

  preds_sound : (params : List Param) (parts : PredViews) → AreSoundPreds params parts → All (IsSoundTerm params) (terms_in_each parts)
  preds_sound params End sound = nothing_sound params
  preds_sound params (More part rest) sound =
      All-append (IsSoundTerm params) (terms_in part) (terms_in_each rest) (pred_sound params part sound.0) (preds_sound params rest sound.1)

terms_sound : (params : List Param) (body : BodyView) → IsSoundBody params body → All (IsSoundTerm params) (terms_of body)
terms_sound params (Plain pred) sound = pred_sound params pred sound
terms_sound params (IfThen premise pred) sound =
    All-append (IsSoundTerm params) (terms_in premise) (terms_in pred) (pred_sound params premise sound.0) (pred_sound params pred sound.1)
terms_sound params (IfElse premise pred other) sound =
    All-append (IsSoundTerm params) (terms_in premise ++ terms_in pred) (terms_in other)
    (All-append (IsSoundTerm params) (terms_in premise) (terms_in pred) (pred_sound params premise sound.0) (pred_sound params pred sound.1))
    (pred_sound params other sound.2)

-- so are the borrowed ones of a list that holds them
pub listed_sound : (params : List Param) (body : BodyView) (items list : List (Bor Term)) → IsSoundBody params body → map (λ t. t.now) items ≡ terms_of body
    → list ≡ items → All (IsSoundTerm params) (map (λ t. t.now) list)
listed_sound params body items list sound are whole =
    subst (All (IsSoundTerm params)) (sym (ap (map (λ (t : Bor Term). t.now)) whole ∙ are)) (terms_sound params body sound)
