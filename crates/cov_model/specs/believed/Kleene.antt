-- What is known of a constraint on a partial row: a term is unknown where one of its parameters isn't
-- assigned, and NOT, AND and OR follow Kleene's three values. (PICT's guide; Kleene's logic.)
use Rattle.std.specs.Prelude.{ℕ, Bool, true, false, List, [], ◌∷◌, Option, if◌then◌else◌}
use Rattle.std.specs.List.{list_all}
use Rattle.cov_model.specs.declared.truth.Truth.{Truth}
use Rattle.cov_model.specs.declared.truth.Truth.TheVariants.{Yes, No, Unknown}
use Rattle.cov_model.specs.declared.constraint.Term as terms
use Rattle.cov_model.specs.declared.constraint.Term.TheVariants.{ValueIs, ParamIs, OneOf, Like, Negative, Positive}
use Rattle.cov_model.specs.believed.Views.{PredView, PredViews, Leaf, Negated, Each, Either, End, More, BodyView, Plain, IfThen, IfElse}
use Rattle.cov_model.specs.believed.Sound.{ModelView}
use Rattle.cov_model.specs.believed.Rows.{is_assigned}
use Rattle.cov_model.specs.believed.Meaning.{term_holds}

-- what is known of what holds or doesn't
abbrev pub known : Bool → Truth
known true = Yes
known false = No

abbrev pub not_of : Truth → Truth
not_of Yes = No
not_of No = Yes
not_of Unknown = Unknown

abbrev pub and_of : Truth → Truth → Truth
and_of Yes b = b
and_of No b = No
and_of Unknown No = No
and_of Unknown Yes = Unknown
and_of Unknown Unknown = Unknown

abbrev pub or_of : Truth → Truth → Truth
or_of No b = b
or_of Yes b = Yes
or_of Unknown Yes = Yes
or_of Unknown No = Unknown
or_of Unknown Unknown = Unknown

-- the parameters that a term names
abbrev pub term_params : terms.Term → List ℕ
term_params (ValueIs p rel literal) = p ∷ []
term_params (ParamIs p rel q) = p ∷ q ∷ []
term_params (OneOf p literals) = p ∷ []
term_params (Like p pattern) = p ∷ []
term_params (Negative p) = p ∷ []
term_params (Positive p) = p ∷ []

-- a term is unknown until each of its parameters is assigned
abbrev pub term_truth : ModelView → terms.Term → List (Option ℕ) → Truth
term_truth m term cells =
    if list_all (λ p. is_assigned cells p) (term_params term) then known (term_holds m term cells) else Unknown

-- what is known of a predicate
abbrev mutual
  pub pred_truth : ModelView → PredView → List (Option ℕ) → Truth
  pred_truth m (Leaf term) cells = term_truth m term cells
  pred_truth m (Negated inner) cells = not_of (pred_truth m inner cells)
  pred_truth m (Each parts) cells = all_truth m parts cells
  pred_truth m (Either parts) cells = any_truth m parts cells

  pub all_truth : ModelView → PredViews → List (Option ℕ) → Truth
  all_truth m End cells = Yes
  all_truth m (More part rest) cells = and_of (pred_truth m part cells) (all_truth m rest cells)

  pub any_truth : ModelView → PredViews → List (Option ℕ) → Truth
  any_truth m End cells = No
  any_truth m (More part rest) cells = or_of (pred_truth m part cells) (any_truth m rest cells)

-- what is known of a constraint
abbrev pub body_truth : ModelView → BodyView → List (Option ℕ) → Truth
body_truth m (Plain pred) cells = pred_truth m pred cells
body_truth m (IfThen premise pred) cells = or_of (not_of (pred_truth m premise cells)) (pred_truth m pred cells)
body_truth m (IfElse premise pred other) cells =
    and_of (or_of (not_of (pred_truth m premise cells)) (pred_truth m pred cells))
    (or_of (pred_truth m premise cells) (pred_truth m other cells))
