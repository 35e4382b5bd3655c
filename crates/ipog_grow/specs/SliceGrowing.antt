-- The growth of one slice from given rows. (This project's rules.)
use Rattle.std.specs.Prelude.{ℕ, List, Option}
use Rattle.definitions.specs.believed.Growth.{Grown, slice_grown_from}
use Rattle.full_search.specs.Questions.{QuestionsView}

-- what the slice gives from these partial rows
abbrev pub grown_from : QuestionsView → List (List (Option ℕ)) → Grown
grown_from context rows = slice_grown_from context.model context.prefs context.slice rows
