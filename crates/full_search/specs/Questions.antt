-- Questions about a slice, and what they may cost. (This project's rule.)
use Rattle.std.specs.Prelude.{ℕ, Bool, List, if◌then◌else◌}
use Rattle.cov_model.specs.declared.slice.Slice.{Slice}
use Rattle.cov_model.specs.believed.Sound.{ModelView}
use Rattle.definitions.specs.declared.effort.Effort.{Effort}
use Rattle.definitions.specs.declared.effort.Effort.TheVariants.{Within, Full}
use Rattle.definitions.specs.believed.Search.{exceeds}
use Rattle.feasibility.specs.declared.answer.Answer.{Answer}
use Rattle.feasibility.specs.declared.answer.Answer.TheVariants.{Yes, No, Spent}
use Rattle.full_search.specs.declared.search.Search.{Search}
use Rattle.full_search.specs.declared.search.Search.TheVariants as searches

-- what decides the answers: the model, the preference orders, the slice, and what a question may cost
pub record QuestionsView : Type 0 where
  pub model : ModelView
  pub prefs : List (List ℕ)
  pub slice : Slice
  pub effort : Effort

-- a search, as the questions that it answers
abbrev pub seen : Search → QuestionsView
seen (searches.Within one) = record { model = one.solver.model; prefs = one.solver.prefs; slice = one.solver.slice; effort = Within one.budget }
seen (searches.Full search) = record { model = search.model; prefs = search.prefs; slice = search.slice; effort = Full }

-- Spent where the plain cost is above what a question may cost, and else whether a completion was found
abbrev pub answer_within : Bool → ℕ → Effort → Answer
answer_within found cost effort = if exceeds effort cost then Spent else if found then Yes else No
