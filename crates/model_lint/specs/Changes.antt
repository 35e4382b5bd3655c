-- Models some of whose constraints are changed: what is asked of them is asked of the whole model. (This project's rule.)
use Rattle.std.specs.Prelude.{◌≡◌, ℕ, ◌-◌, Bool, true, false, List, [], map, Option, replicate, slice_index_or, slice_set, if◌then◌else◌}
use Rattle.cov_model.specs.declared.slice.Slice.{Slice}
use Rattle.cov_model.specs.believed.Rows.{contains}
use Rattle.cov_model.specs.believed.Slices.{slice_of}
use Rattle.cov_model.specs.believed.Sound.{ModelView}
use Rattle.cov_model.specs.believed.Valid.{is_valid}
use Rattle.cov_model.specs.believed.Views.{Negated, Each, End, More, BodyView, Plain, IfThen, IfElse, RuleView}
use Rattle.cov_model.specs.declared.demand.Demand.{Demand}
use Rattle.model_lint.specs.declared.change.Change.{Change}
use Rattle.model_lint.specs.declared.change.Change.TheVariants.{LeftOut, Kept, Opposite, WithPremise}

-- what a constraint demands once it is changed
abbrev pub changed_body : Change → BodyView → BodyView
changed_body LeftOut body = Plain (Each End)
changed_body Kept body = body
changed_body Opposite (Plain pred) = Plain (Negated pred)
changed_body Opposite (IfThen premise pred) = Plain (Each (More premise (More (Negated pred) End)))
changed_body Opposite (IfElse premise pred other) = IfElse premise (Negated pred) (Negated other)
changed_body WithPremise (Plain pred) = Plain pred
changed_body WithPremise (IfThen premise pred) = Plain (Each (More premise (More pred End)))
changed_body WithPremise (IfElse premise pred other) = Plain (Each (More premise (More pred End)))

-- the change of the constraint of a number
abbrev pub change_at : List Change → ℕ → Change
change_at changes number = slice_index_or changes (number - 1) LeftOut

abbrev pub changed_rule : List Change → RuleView → RuleView
changed_rule changes rule = record { number = rule.number; line = rule.line; body = changed_body (change_at changes rule.number) rule.body }

-- a demand that every model can have
abbrev pub least_demand : Demand
least_demand = record { order = 1; subs = []; relations = [] }

-- the model with these changes
abbrev pub changed : ModelView → List Change → ModelView
changed m changes = record { params = m.params; rules = map (changed_rule changes) m.rules; demand = least_demand; prefix = m.prefix; fold = m.fold }

-- the constraint of a number is marked
abbrev pub is_marked : List Bool → ℕ → Bool
is_marked marks number = slice_index_or marks (number - 1) false

-- only what is marked is kept
abbrev pub kept_alone : Bool → Change
kept_alone mark = if mark then Kept else LeftOut

-- a test of the slice that contains the partial row
pub record IsTestOf (m : ModelView) (slice : Slice) (cells row : List (Option ℕ)) : Type 0 where
  pub own : slice_of m row ≡ slice
  pub valid : is_valid m row ≡ true
  pub contained : contains row cells ≡ true

-- one constraint of so many is changed, and the others are kept
abbrev pub one_changed : ℕ → ℕ → Change → List Change
one_changed count number change = slice_set (replicate count Kept) (number - 1) change
