-- Constraints as plain trees, as contracts see them. (PICT's guide.)
use mathlib.Core.Former.{Count}
use Rattle.std.specs.Prelude.{◌≡◌, List, [], ◌∷◌, refl}
use Rattle.std.proofs.Common.{ap, ◌∙◌}
use Rattle.cov_model.specs.declared.constraint.Body.{Body}
use Rattle.cov_model.specs.declared.constraint.Body.TheVariants as bodies
use Rattle.cov_model.specs.declared.constraint.Rule.{Rule}
use Rattle.cov_model.specs.declared.constraint.Pred as preds
use Rattle.cov_model.specs.declared.constraint.Pred.{Pred, Term, Not', All', Any', Row_of-Pred, end_of-Pred, more_of-Pred, items-the_row-Pred, items_hidden-the_row-Pred-0}
use Rattle.cov_model.specs.believed.Views.{PredView, Leaf, Negated, Each, Either, PredViews, End, More, BodyView, Plain, IfThen, IfElse, RuleView}

-- the tree that a predicate of the code is
abbrev mutual
  pub pred_view : Pred → PredView
  pred_view (Term term) = Leaf term
  pred_view (Not' pointer inner) = Negated (pred_view inner)
  pred_view (All' n parts) = Each (preds_view parts)
  pred_view (Any' n parts) = Either (preds_view parts)

  pub preds_view : {n : _} → Row_of-Pred n → PredViews
  preds_view end_of-Pred = End
  preds_view (more_of-Pred part rest) = More (pred_view part) (preds_view rest)

-- the same of a list of predicates, as the code's conjunctions and disjunctions have one
abbrev pub preds_in : List Pred → PredViews
preds_in [] = End
preds_in (part ∷ parts) = More (pred_view part) (preds_in parts)

-- what a constraint of the code demands, and a constraint of the code
abbrev pub body_view : Body → BodyView
body_view (bodies.Plain pred) = Plain (pred_view pred)
body_view (bodies.IfThen premise pred) = IfThen (pred_view premise) (pred_view pred)
body_view (bodies.IfElse premise pred other) = IfElse (pred_view premise) (pred_view pred) (pred_view other)

abbrev pub rule_view : Rule → RuleView
rule_view rule = record { number = rule.number; line = rule.line; body = body_view rule.body }

abbrev row_of : Pred → (n : Count) × Row_of-Pred n
row_of (All' _ row) = (_, row)
row_of (Any' _ row) = (_, row)
row_of _ = (_, end_of-Pred)

rows_in : {n : _} (parts : Row_of-Pred n) → preds_view parts ≡ preds_in (items-the_row-Pred n parts)
rows_in end_of-Pred = refl
rows_in (more_of-Pred part rest) = ap (λ views. More (pred_view part) views) (rows_in rest)

-- so a conjunction is one of the trees of its parts, and a disjunction too
pub each_is : (parts : List Pred) → pred_view (preds.All parts) ≡ Each (preds_in parts)
each_is parts = ap Each (rows_in (row_of (preds.All parts)).1 ∙ ap (λ list. preds_in list) (items_hidden-the_row-Pred-0 parts))

pub either_is : (parts : List Pred) → pred_view (preds.Any parts) ≡ Either (preds_in parts)
either_is parts = ap Either (rows_in (row_of (preds.Any parts)).1 ∙ ap (λ list. preds_in list) (items_hidden-the_row-Pred-0 parts))
