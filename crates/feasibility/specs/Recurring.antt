-- What is kept of questions that were answered, and which questions are the same as they. (This project's rule.)
use Rattle.std.specs.Prelude.{◌≡◌, ℕ, true, false, List, length, replicate, All, Option, None, slice_index_or, slice_set}
use Rattle.cov_model.specs.believed.Sound.{ModelView}
use Rattle.definitions.specs.believed.Search.{constrained_params, visit}
use Rattle.feasibility.specs.declared.answer.Answer.{Answer}
use Rattle.feasibility.specs.declared.answer.Answer.TheVariants.{Yes, No, Spent}
use Rattle.feasibility.specs.declared.answered.Answered.{Answered}
use Rattle.feasibility.specs.Tree.{is_named}

-- if a question is known, a search of its partial row has this outcome
pub record IsAnswered (m : ModelView) (lists : List (List ℕ)) (answered : Answered) : Type 0 where
  pub long : length answered.cells ≡ length m.params
  pub told : answered.known ≡ true → visit m lists (constrained_params m) answered.cells ≡ record { found = answered.found; cost = answered.cost }

-- so it is at each place of a table
abbrev pub AreAnswered : ModelView → List (List ℕ) → List Answered → Type 0
AreAnswered m lists table = All (IsAnswered m lists) table

-- no question, with room for one about so many parameters
abbrev pub unanswered : ℕ → Answered
unanswered count = record { known = false; cells = replicate count None; found = false; cost = 0 }

abbrev pub none_answered : Answered
none_answered = unanswered 0

-- a table after an answer was kept at a place
abbrev pub kept_at : List Answered → ℕ → List (Option ℕ) → Answer → ℕ → List Answered
kept_at table place cells Yes cost = slice_set table place (record { known = true; cells = cells; found = true; cost = cost })
kept_at table place cells No cost = slice_set table place (record { known = true; cells = cells; found = false; cost = cost })
kept_at table place cells Spent cost = table

-- two partial rows of the model give each parameter that a constraint names the same value, or none
pub record AgreeOnNamed (m : ModelView) (a b : List (Option ℕ)) : Type 0 where
  pub long : length a ≡ length m.params
  pub also : length b ≡ length m.params
  pub named : (p : ℕ) → is_named m p ≡ true → slice_index_or a p None ≡ slice_index_or b p None
