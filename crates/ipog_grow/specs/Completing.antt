-- Completing the grown rows of a slice. (This project's rules.)
use Rattle.std.specs.Prelude.{ℕ, List, Option}
use Rattle.definitions.specs.believed.Completion.{first_completion}
use Rattle.full_search.specs.Questions.{QuestionsView}

-- the first completion of a partial row
abbrev pub completed : QuestionsView → List (Option ℕ) → Option (List (Option ℕ))
completed context cells = first_completion context.model context.prefs context.slice cells
