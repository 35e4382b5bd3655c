-- What every slice of a suite grows from. (This project's rules.)
use Rattle.std.specs.Prelude.{◌≡◌, true, All}
use Rattle.cov_model.specs.declared.slice.Slice.{Slice}
use Rattle.cov_model.specs.Fits.{FitsModel}
use Rattle.cov_model.specs.Preference.{OrdersValues}
use Rattle.definitions.specs.believed.Completion.{has_slice}
use Rattle.tuple_index.specs.Plan.{plan_of}
use Rattle.ipog_grow.specs.declared.input.GrowInput.{GrowInput}
use Rattle.full_search.specs.Questions.{QuestionsView}

-- the plan and the preferences are the model's, and the kept seeds are partial rows of its slices
pub record IsSoundInput (input : GrowInput) : Type 0 where
  pub plan : input.plan.now ≡ plan_of input.model.now
  pub orders : OrdersValues input.model.now input.prefs.now
  pub fit : All (FitsModel input.model.now) input.kept.now
  pub few : All (λ seed. has_slice input.model.now seed ≡ true) input.kept.now

-- what decides the answers in a slice
abbrev pub context_in : GrowInput → Slice → QuestionsView
context_in input slice = record { model = input.model.now; prefs = input.prefs.now; slice = slice; effort = input.effort }
