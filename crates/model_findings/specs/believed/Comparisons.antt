-- Comparisons that are the same for every value of their parameters. (This project's rule.)
use Rattle.std.specs.Prelude.{ℕ, Bool, true, false, ◌||◌, not, List, [], ◌∷◌, Option, if◌then◌else◌}
use Rattle.std.specs.List.{list_any}
use Rattle.cov_model.specs.declared.constraint.Literal.{Literal}
use Rattle.cov_model.specs.declared.constraint.Rel.TheVariants.{Eq, Ne}
use Rattle.cov_model.specs.declared.constraint.Term as terms
use Rattle.cov_model.specs.declared.constraint.Term.TheVariants.{ValueIs, ParamIs, OneOf, Like, Negative, Positive}
use Rattle.cov_model.specs.believed.Kleene.{term_params}
use Rattle.cov_model.specs.believed.Meaning.{term_holds}
use Rattle.cov_model.specs.believed.Rows.{with_value}
use Rattle.cov_model.specs.believed.Slices.{value_numbers}
use Rattle.cov_model.specs.believed.Sound.{ModelView}
use Rattle.model_lint.specs.believed.Tests.{no_values}

-- some values of these parameters, put into a partial row, pass the test
abbrev pub is_for_some : ModelView → List ℕ → (List (Option ℕ) → Bool) → List (Option ℕ) → Bool
is_for_some m [] test cells = test cells
is_for_some m (p ∷ ps) test cells = list_any (λ v. is_for_some m ps test (with_value cells p v)) (value_numbers m p)

-- a term is true, or false, of the values of a partial row
abbrev pub is_so : ModelView → terms.Term → Bool → List (Option ℕ) → Bool
is_so m term truth cells = if truth then term_holds m term cells else not (term_holds m term cells)

-- and of some values of its parameters
abbrev pub is_ever : ModelView → terms.Term → Bool → Bool
is_ever m term truth = is_for_some m (term_params term) (is_so m term truth) (no_values m)

-- of none, and of all
abbrev pub is_never_true : ModelView → terms.Term → Bool
is_never_true m term = not (is_ever m term true)

abbrev pub is_always_true : ModelView → terms.Term → Bool
is_always_true m term = not (is_ever m term false)

-- an element of an IN list that no value of the parameter equals
abbrev pub is_unknown_element : ModelView → ℕ → Literal → Bool
is_unknown_element m p literal = is_never_true m (ValueIs p Eq literal)

-- a comparison by `=` or `<>`, or with a pattern, in which no value of the parameter meets the literal
abbrev pub is_unknown : ModelView → terms.Term → Bool
is_unknown m (ValueIs p Eq literal) = is_never_true m (ValueIs p Eq literal)
is_unknown m (ValueIs p Ne literal) = is_always_true m (ValueIs p Ne literal)
is_unknown m (Like p pattern) = is_never_true m (Like p pattern)
is_unknown m term = false

-- any other comparison that is the same for every value of its parameters. An IN list that is never true has unknown
-- elements alone, which are told. A test of a value's sign is no comparison.
abbrev pub is_constant : ModelView → terms.Term → Bool
is_constant m (ValueIs p Eq literal) = is_always_true m (ValueIs p Eq literal)
is_constant m (ValueIs p Ne literal) = is_never_true m (ValueIs p Ne literal)
is_constant m (ValueIs p rel literal) = is_never_true m (ValueIs p rel literal) || is_always_true m (ValueIs p rel literal)
is_constant m (ParamIs p rel q) = is_never_true m (ParamIs p rel q) || is_always_true m (ParamIs p rel q)
is_constant m (OneOf p literals) = is_always_true m (OneOf p literals)
is_constant m (Like p pattern) = is_always_true m (Like p pattern)
is_constant m (Negative p) = false
is_constant m (Positive p) = false
