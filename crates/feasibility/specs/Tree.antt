-- What a search looks at in each node: each parameter's values, the parameters that a constraint names, and
-- the constraints that a value leaves undecided. (This project's rule.)
use Rattle.std.specs.Prelude.{◌≡◌, ℕ, ◌<◌, Bool, true, not, List, [], length, map, drop, replicate, Option, None, slice_index_or, IfSome}
use Rattle.std.specs.List.{filter, list_any, range_with_len}
use Rattle.cov_model.specs.believed.Views.{BodyView}
use Rattle.cov_model.specs.believed.Sound.{ModelView, param_at}
use Rattle.cov_model.specs.Sound.{rule_at}
use Rattle.cov_model.specs.believed.Rows.{is_assigned, value_in, with_value}
use Rattle.cov_model.specs.believed.Kleene.{body_truth}
use Rattle.cov_model.specs.believed.Slices.{value_numbers}
use Rattle.definitions.specs.believed.Demand.{is_among}
use Rattle.definitions.specs.believed.Search.{body_params, constrained_params}
use Rattle.compiled_rules.specs.Codes.{is_yes}
use Rattle.feasibility.specs.declared.constrained.Constrained.{Constrained}
use Rattle.feasibility.specs.SafeValues.{AreSafe}

-- a model and each parameter's values in the order in which they are tried
pub record TreeView : Type 0 where
  pub model : ModelView
  pub values : List (List ℕ)

-- the row on which no parameter has a value
abbrev pub no_values : ModelView → List (Option ℕ)
no_values m = replicate (length m.params) None

-- those of so many parameters that a constraint names
abbrev pub members : ℕ → BodyView → List ℕ
members count body = filter (is_among (body_params body)) (range_with_len 0 count)

-- the parameters that each constraint names
abbrev pub all_members : ModelView → List (List ℕ)
all_members m = map (λ rule. members (length m.params) rule.body) m.rules

-- some constraint names the parameter
abbrev pub is_named : ModelView → ℕ → Bool
is_named m p = list_any (λ rule. is_among (body_params rule.body) p) m.rules

-- the numbers of the constraints that name a parameter
abbrev pub naming : ModelView → ℕ → List ℕ
naming m p = map (λ rule. rule.number) (filter (λ rule. is_among (body_params rule.body) p) m.rules)

-- those of some constraints that aren't known to hold on a partial row
abbrev pub undecided_on : ModelView → List ℕ → List (Option ℕ) → List ℕ
undecided_on m numbers cells = filter (λ k. not (is_yes (body_truth m (rule_at m k).body cells))) numbers

-- the constraints that name a parameter and aren't known to hold where it alone has a value, this one
abbrev pub undecided : ModelView → ℕ → ℕ → List ℕ
undecided m p v = undecided_on m (naming m p) (with_value (no_values m) p v)

-- the values of a parameter that alone leave a constraint undecided
abbrev pub doubtful : ModelView → BodyView → ℕ → List ℕ
doubtful m body q = filter (λ w. not (is_yes (body_truth m body (with_value (no_values m) q w)))) (value_numbers m q)

-- these by each parameter that the constraint of a number names
abbrev pub doubtful_by : ModelView → ℕ → List (List ℕ)
doubtful_by m k = map (doubtful m (rule_at m k).body) (members (length m.params) (rule_at m k).body)

-- the same of each constraint
abbrev pub all_doubtful : ModelView → List (List (List ℕ))
all_doubtful m = map (doubtful_by m) (range_with_len 1 (length m.rules))

-- the constraints that a parameter leaves undecided, by each of its values
abbrev pub undecided_by : ModelView → ℕ → Constrained
undecided_by m p = record { param = p; undecided = map (undecided m p) (value_numbers m p) }

-- the same of each parameter that constraints name
abbrev pub all_constrained : ModelView → List Constrained
all_constrained m = map (undecided_by m) (constrained_params m)

-- the constrained parameter at a place, and those from a place on
abbrev pub constrained_at : ModelView → ℕ → ℕ
constrained_at m i = slice_index_or (constrained_params m) i 0

abbrev pub constrained_from : ModelView → ℕ → List ℕ
constrained_from m i = drop i (constrained_params m)

-- one list of values for each parameter, and these values exist
pub record ListsValues (m : ModelView) (lists : List (List ℕ)) : Type 0 where
  pub as_many : length lists ≡ length m.params
  pub exist : (p v : ℕ) → is_among (slice_index_or lists p []) v ≡ true → v < length (param_at m.params p).values

-- the values of the partial row are listed
pub record IsListed (lists : List (List ℕ)) (cells : List (Option ℕ)) : Type 0 where
  pub long : length cells ≡ length lists
  pub listed : (p : ℕ) → is_assigned cells p ≡ true → is_among (slice_index_or lists p []) (value_in cells p) ≡ true

-- what a search has is of the model
pub record IsTree (m : ModelView) (lists named : List (List ℕ)) (doubts : List (List (List ℕ))) (entries : List Constrained) (most : Option ℕ)
    : Type 0 where
  pub values : ListsValues m lists
  pub members : named ≡ all_members m
  pub doubtful : doubts ≡ all_doubtful m
  pub constrained : entries ≡ all_constrained m
  pub safe : IfSome most (AreSafe entries lists)
