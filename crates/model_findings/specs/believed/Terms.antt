-- The terms of a constraint, in the order in which they are written. (This project's rule.)
use Rattle.std.specs.Prelude.{List, [], ◌∷◌, ◌++◌}
use Rattle.cov_model.specs.declared.constraint.Term.{Term}
use Rattle.cov_model.specs.believed.Views.{PredView, PredViews, Leaf, Negated, Each, Either, End, More, BodyView, Plain, IfThen, IfElse}

abbrev mutual
  pub terms_in : PredView → List Term
  terms_in (Leaf term) = term ∷ []
  terms_in (Negated inner) = terms_in inner
  terms_in (Each parts) = terms_in_each parts
  terms_in (Either parts) = terms_in_each parts

  pub terms_in_each : PredViews → List Term
  terms_in_each End = []
  terms_in_each (More part rest) = terms_in part ++ terms_in_each rest

abbrev pub terms_of : BodyView → List Term
terms_of (Plain pred) = terms_in pred
terms_of (IfThen premise pred) = terms_in premise ++ terms_in pred
terms_of (IfElse premise pred other) = (terms_in premise ++ terms_in pred) ++ terms_in other
