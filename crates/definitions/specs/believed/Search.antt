-- Plain search for a completion of a partial row, and its cost: the number of nodes that it visits. It
-- looks one value ahead, and looking at a value visits nothing. (This project's rule.)
use Rattle.std.specs.Prelude.{ℕ, suc, ◌+◌, Bool, true, false, ◌||◌, ◌&&◌, not, List, [], ◌∷◌, ◌++◌, Option, None, slice_index_or, if◌then◌else◌, find, nat_lt}
use Rattle.std.specs.List.{filter, list_any}
use Rattle.cov_model.specs.declared.slice.Slice.{Slice}
use Rattle.cov_model.specs.declared.truth.Truth.{Truth}
use Rattle.cov_model.specs.declared.truth.Truth.TheVariants.{Yes, No, Unknown}
use Rattle.cov_model.specs.believed.Views.{PredView, PredViews, Leaf, Negated, Each, Either, End, More, BodyView, Plain, IfThen, IfElse}
use Rattle.cov_model.specs.believed.Sound.{ModelView}
use Rattle.cov_model.specs.believed.Preference.{preference}
use Rattle.cov_model.specs.believed.Rows.{is_assigned, with_value}
use Rattle.cov_model.specs.believed.Kleene.{term_params, body_truth}
use Rattle.cov_model.specs.believed.Valid.{param_numbers}
use Rattle.cov_model.specs.believed.Slices.{slice_of}
use Rattle.definitions.specs.declared.effort.Effort.{Effort}
use Rattle.definitions.specs.declared.effort.Effort.TheVariants.{Within, Full}
use Rattle.definitions.specs.believed.Demand.{demanded_tuples, is_among}
use Rattle.definitions.specs.believed.Completion.{preferred_values}

-- the parameters that a predicate names
abbrev mutual
  pub pred_params : PredView → List ℕ
  pred_params (Leaf term) = term_params term
  pred_params (Negated inner) = pred_params inner
  pred_params (Each parts) = parts_params parts
  pred_params (Either parts) = parts_params parts

  pub parts_params : PredViews → List ℕ
  parts_params End = []
  parts_params (More part rest) = pred_params part ++ parts_params rest

-- the parameters that a constraint names
abbrev pub body_params : BodyView → List ℕ
body_params (Plain pred) = pred_params pred
body_params (IfThen premise pred) = pred_params premise ++ pred_params pred
body_params (IfElse premise pred other) = pred_params premise ++ pred_params pred ++ pred_params other

-- the parameters that constraints name, in declared order
abbrev pub constrained_params : ModelView → List ℕ
constrained_params m = filter (λ p. list_any (λ rule. is_among (body_params rule.body) p) m.rules) (param_numbers m)

-- what is known is that it doesn't hold
abbrev pub is_no : Truth → Bool
is_no Yes = false
is_no No = true
is_no Unknown = false

-- some constraint is No on the partial row
abbrev pub breaks_a_rule : ModelView → List (Option ℕ) → Bool
breaks_a_rule m cells = list_any (λ rule. is_no (body_truth m rule.body cells)) m.rules

-- a parameter without a value has no live value: with each of its values some constraint is No
abbrev pub is_stuck : ModelView → List (List ℕ) → List (Option ℕ) → ℕ → Bool
is_stuck m values cells p =
    not (is_assigned cells p) && not (list_any (λ v. not (breaks_a_rule m (with_value cells p v))) (slice_index_or values p []))

-- a node fails if some constraint is No on it, or some parameter without a value, whether constraints
-- name it or not, has no live value
abbrev pub is_failing : ModelView → List (List ℕ) → List (Option ℕ) → Bool
is_failing m values cells = breaks_a_rule m cells || list_any (is_stuck m values cells) (param_numbers m)

-- whether a search succeeded, and how many nodes it visited
pub record Outcome : Type 0 where
  pub found : Bool
  pub cost : ℕ

-- visits the partial row with each of the values until one succeeds
abbrev pub try_values : (List (Option ℕ) → Outcome) → List (Option ℕ) → ℕ → List ℕ → Outcome
try_values visit cells p [] = record { found = false; cost = 0 }
try_values visit cells p (v ∷ values) =
    let first = visit (with_value cells p v) in
    let later = try_values visit cells p values in
    if first.found then first else record { found = later.found; cost = first.cost + later.cost }

-- a visit of a node, given the constrained parameters from some one on, before which all are assigned:
-- it fails, or succeeds where all are assigned, or visits the row with each value of the first that isn't
abbrev pub visit : ModelView → List (List ℕ) → List ℕ → List (Option ℕ) → Outcome
visit m values [] cells = record { found = not (is_failing m values cells); cost = 1 }
visit m values (p ∷ params) cells =
    let below = try_values (visit m values params) cells p (slice_index_or values p []) in
    if is_assigned cells p then visit m values params cells
    else if is_failing m values cells then record { found = false; cost = 1 }
    else record { found = below.found; cost = suc below.cost }

-- plain search from a partial row of a slice; the lists give each parameter's values in preference order
abbrev pub plain_search : ModelView → List (List ℕ) → Slice → List (Option ℕ) → Outcome
plain_search m pref slice cells = visit m (preferred_values m pref slice) (constrained_params m) cells

-- the plain cost: the number of nodes that it visits
abbrev pub plain_cost : ModelView → List (List ℕ) → Slice → List (Option ℕ) → ℕ
plain_cost m pref slice cells = (plain_search m pref slice cells).cost

-- the plain cost of a question: of a partial row with at most one negative value, in its slice
abbrev pub question_cost : ModelView → List (List ℕ) → List (Option ℕ) → ℕ
question_cost m pref cells = plain_cost m pref (slice_of m cells) cells

-- a plain cost is above what a question may cost; without a bound none is
abbrev pub exceeds : Effort → ℕ → Bool
exceeds (Within budget) cost = nat_lt budget cost
exceeds Full cost = false

-- the first of the questions whose plain cost is above what a question may cost
abbrev pub first_over : ModelView → List (List ℕ) → Effort → List (List (Option ℕ)) → Option (List (Option ℕ))
first_over m pref effort questions = find (λ cells. exceeds effort (question_cost m pref cells)) questions

-- a run that measures a suite asks the demanded tuples in order, with the preferences without a shuffle;
-- the first of them whose plain cost is above what a question may cost
abbrev pub first_measured_over : ModelView → Effort → Option (List (Option ℕ))
first_measured_over m effort = first_over m (preference m None) effort (demanded_tuples m)
