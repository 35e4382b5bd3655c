-- The open tuples of a slice, those that no partial row contains yet, as the list of their places.
-- (Lei and others 2007.)
use Rattle.std.specs.Prelude.{◌≡◌, ℕ, Bool, true, not, ◌&&◌, List, length, Option, Some, None, find}
use Rattle.std.specs.List.{filter, list_any}
use Rattle.cov_model.specs.declared.slice.Slice.{Slice}
use Rattle.cov_model.specs.believed.Sound.{ModelView}
use Rattle.cov_model.specs.believed.Rows.{contains, with_value}
use Rattle.uncovered_table.specs.Places.{is_behind, is_in_play, is_place, slice_places, tuple_at}

-- a table of open tuples: the model, the slice, and the places of the open tuples in order
pub record OpenView : Type 0 where
  pub model : ModelView
  pub slice : Slice
  pub places : List (ℕ × ℕ)

-- at first every tuple of the slice is open
abbrev pub all_open : ModelView → Slice → OpenView
all_open m slice = record { model = m; slice = slice; places = slice_places m slice }

-- the place is one of the slice's
abbrev pub IsPlaceOf : OpenView → ℕ × ℕ → Type 0
IsPlaceOf table place = list_any (is_place place) (slice_places table.model table.slice) ≡ true

-- the tuple of the place is open
abbrev pub is_open : OpenView → ℕ × ℕ → Bool
is_open table place = list_any (is_place place) table.places

-- the table without the tuple of the place
abbrev pub closed : OpenView → ℕ × ℕ → OpenView
closed table place = record table { places = filter (λ other. not (is_place place other)) table.places }

-- the place is one of a set in play for a column, and the cells contain its tuple
abbrev pub is_held : OpenView → ℕ → List (Option ℕ) → ℕ × ℕ → Bool
is_held table p cells place = is_in_play table.model table.slice p place && contains cells (tuple_at table.model place)

-- the table without the tuples of the sets in play that the cells contain
abbrev pub row_closed : OpenView → ℕ → List (Option ℕ) → OpenView
row_closed table p cells = record table { places = filter (λ place. not (is_held table p cells place)) table.places }

-- the place stands behind another, where there is one
abbrev pub is_after : Option (ℕ × ℕ) → ℕ × ℕ → Bool
is_after None place = true
is_after (Some from) place = is_behind from place

-- the first open tuple of the sets in play after a place
abbrev pub next_open : OpenView → ℕ → Option (ℕ × ℕ) → Option (ℕ × ℕ)
next_open table p from = find (λ place. is_in_play table.model table.slice p place && is_after from place) table.places

-- the gain of a value: how many open tuples of the sets in play the cells with this value contain
abbrev pub gain : OpenView → List (Option ℕ) → ℕ → ℕ → ℕ
gain table cells p v = length (filter (is_held table p (with_value cells p v)) table.places)
