-- Which name of each value is shown next: a number for each parameter and each of its values.
-- (That names take turns is PICT's guide's.)
use Rattle.std.specs.Prelude.{◌≡◌, ℕ, ◌+◌, ◌%◌, ◌<◌, List, [], map, length, replicate, Option, slice_index, slice_index_or, slice_set}
use Rattle.cov_model.specs.believed.Sound.{ModelView, param_at}
use Rattle.cov_model.specs.believed.Meaning.{value_at}
use Rattle.definitions.specs.believed.Report.{times_given}
use Rattle.row_text.specs.declared.turns.Turns.{Turns}

-- before the first row each value of the model shows its first name
abbrev pub first_turns : ModelView → List (List ℕ)
first_turns m = map (λ param. replicate (length param.values) 0) m.params

-- the numbers set to 0
abbrev pub cleared : List (List ℕ) → List (List ℕ)
cleared turns = map (λ next. replicate (length next) 0) turns

-- there is a number for each value of the model
abbrev pub IsFor : ModelView → List (List ℕ) → Type 0
IsFor m turns = cleared turns ≡ first_turns m

abbrev pub AreMadeFor : ModelView → Turns → Type 0
AreMadeFor m turns = IsFor m turns.next

-- the numbers of a parameter's values, and that of one of them
abbrev pub turns_at : List (List ℕ) → ℕ → List ℕ
turns_at turns p = slice_index_or turns p []

abbrev pub turn_at : List (List ℕ) → ℕ → ℕ → ℕ
turn_at turns p v = slice_index (turns_at turns p) v

-- the numbers after a value of so many names was shown
abbrev pub after_turn : List (List ℕ) → ℕ → ℕ → ℕ → List (List ℕ)
after_turn turns p v count = slice_set turns p (slice_set (turns_at turns p) v ((turn_at turns p v + 1) % count))

-- the numbers of a parameter's values behind these rows
abbrev pub AreTurns : ModelView → List (List (Option ℕ)) → ℕ → List ℕ → Type 0
AreTurns m rows p next =
    (v : ℕ) → v < length (param_at m.params p).values → slice_index next v ≡ times_given rows p v % length (value_at m p v).names
