-- Constraints mean the same in models with the same parameters and the same case rule.
use Rattle.std.proofs.Common.{◌≡◌, ℕ, ◌&&◌, ◌||◌, not, List, Option, refl, ap, ◌∙◌}
use Rattle.cov_model.specs.declared.constraint.Term as terms
use Rattle.cov_model.specs.declared.constraint.Term.TheVariants.{ValueIs, ParamIs, OneOf, Like, Negative, Positive}
use Rattle.cov_model.specs.declared.demand.Demand.{Demand}
use Rattle.cov_model.specs.believed.Meaning.{term_holds, pred_holds, all_hold, any_holds, body_holds}
use Rattle.cov_model.specs.believed.Sound.{ModelView}
use Rattle.cov_model.specs.believed.Views.{PredView, PredViews, Leaf, Negated, Each, Either, End, More, BodyView, Plain, IfThen, IfElse, RuleView}

-- the model with other constraints and another demand
abbrev pub other : ModelView → List RuleView → Demand → ModelView
other m rules demand = record { params = m.params; rules = rules; demand = demand; prefix = m.prefix; fold = m.fold }

module _ (m : ModelView) (rules : List RuleView) (demand : Demand) where
  term_same : (term : terms.Term) (row : List (Option ℕ)) → term_holds (other m rules demand) term row ≡ term_holds m term row
  term_same (ValueIs p rel literal) row = refl
  term_same (ParamIs p rel q) row = refl
  term_same (OneOf p literals) row = refl
  term_same (Like p pattern) row = refl
  term_same (Negative p) row = refl
  term_same (Positive p) row = refl

  mutual
    pub pred_same : (pred : PredView) (row : List (Option ℕ)) → pred_holds (other m rules demand) pred row ≡ pred_holds m pred row
    pred_same (Leaf term) row = term_same term row
    pred_same (Negated inner) row = ap not (pred_same inner row)
    pred_same (Each parts) row = each_same parts row
    pred_same (Either parts) row = either_same parts row

    each_same : (parts : PredViews) (row : List (Option ℕ)) → all_hold (other m rules demand) parts row ≡ all_hold m parts row
    each_same End row = refl
    each_same (More part rest) row =
        ap (λ b. b && all_hold (other m rules demand) rest row) (pred_same part row) ∙ ap (λ b. pred_holds m part row && b) (each_same rest row)

    either_same : (parts : PredViews) (row : List (Option ℕ)) → any_holds (other m rules demand) parts row ≡ any_holds m parts row
    either_same End row = refl
    either_same (More part rest) row =
        ap (λ b. b || any_holds (other m rules demand) rest row) (pred_same part row) ∙ ap (λ b. pred_holds m part row || b) (either_same rest row)

  pub body_same : (body : BodyView) (row : List (Option ℕ)) → body_holds (other m rules demand) body row ≡ body_holds m body row
  body_same (Plain pred) row = pred_same pred row
  body_same (IfThen premise pred) row =
      ap (λ b. not b || pred_holds (other m rules demand) pred row) (pred_same premise row) ∙ ap (λ b. not (pred_holds m premise row) || b) (pred_same pred row)
  body_same (IfElse premise pred else_pred) row =
      ap (λ b. (not b || pred_holds (other m rules demand) pred row) && (b || pred_holds (other m rules demand) else_pred row)) (pred_same premise row)
      ∙ ap (λ b. (not (pred_holds m premise row) || b) && (pred_holds m premise row || pred_holds (other m rules demand) else_pred row)) (pred_same pred row)
      ∙ ap (λ b. (not (pred_holds m premise row) || pred_holds m pred row) && (pred_holds m premise row || b)) (pred_same else_pred row)
