-- Models without the constraints that compare values of a parameter. (This project's rule.)
use Rattle.std.specs.Prelude.{ℕ, Bool, false, ◌||◌, not, ◌==◌}
use Rattle.std.specs.List.{filter, list_any}
use Rattle.cov_model.specs.declared.constraint.Term as terms
use Rattle.cov_model.specs.declared.constraint.Term.TheVariants.{ValueIs, ParamIs, OneOf, Like, Negative, Positive}
use Rattle.cov_model.specs.believed.Sound.{ModelView}
use Rattle.cov_model.specs.believed.Views.{RuleView}
use Rattle.model_findings.specs.believed.Terms.{terms_of}

-- a term names the parameter, and is no test of the sign of its values
abbrev pub compares : ℕ → terms.Term → Bool
compares p (ValueIs q rel literal) = q == p
compares p (ParamIs q rel r) = (q == p) || (r == p)
compares p (OneOf q literals) = q == p
compares p (Like q pattern) = q == p
compares p (Negative q) = false
compares p (Positive q) = false

-- a constraint has no such term
abbrev pub is_free_of : ℕ → RuleView → Bool
is_free_of p rule = not (list_any (compares p) (terms_of rule.body))

-- the model with such constraints alone
abbrev pub without_comparisons : ModelView → ℕ → ModelView
without_comparisons m p = record { params = m.params; rules = filter (is_free_of p) m.rules; demand = m.demand; prefix = m.prefix; fold = m.fold }
