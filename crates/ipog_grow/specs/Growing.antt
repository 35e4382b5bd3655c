-- What the growth of a slice looks at on its way. (This project's rules.)
use Rattle.std.specs.Prelude.{◌≡◌, ◌≢◌, ◌⊎◌, ℕ, true, List, [], ◌∷◌, map, length, Option, Some, None, All, nat_lt, if◌then◌else◌}
use Rattle.std.specs.List.{filter, range_with_len}
use Rattle.definitions.specs.believed.Demand.{is_among}
use Rattle.definitions.specs.believed.Completion.{column_order}
use Rattle.cov_model.specs.declared.slice.Slice.{Slice}
use Rattle.cov_model.specs.declared.slice.Slice.TheVariants.{Positive, Negative}
use Rattle.cov_model.specs.believed.Sound.{ModelView}
use Rattle.cov_model.specs.believed.Rows.{is_assigned}
use Rattle.definitions.specs.SliceRows.{IsOfSlice}
use Rattle.uncovered_table.specs.Open.{OpenView, row_closed}
use Rattle.uncovered_table.specs.Places.{is_behind, is_in_play, tuple_at}

-- of two values, where there are both, the first unless the second has the greater score
abbrev pub better : (ℕ → ℕ) → Option ℕ → Option ℕ → Option ℕ
better score None other = other
better score (Some v) None = Some v
better score (Some v) (Some w) = if nat_lt (score v) (score w) then Some w else Some v

-- the first value of the greatest score in a list, where one has a score above 0
abbrev pub best : (ℕ → ℕ) → List ℕ → Option ℕ
best score [] = None
best score (v ∷ values) = better score (if nat_lt 0 (score v) then Some v else None) (best score values)

-- a negative slice fixes the value of a parameter, so a partial row has one there
abbrev pub HasFixed : Slice → List (Option ℕ) → Type 0
HasFixed Positive cells = Unit {0}
HasFixed (Negative q v) cells = is_assigned cells q ≡ true

-- a partial row that grows in a slice has values of the slice, and the fixed one
pub record GrowsIn (m : ModelView) (slice : Slice) (cells : List (Option ℕ)) : Type 0 where
  pub of : IsOfSlice m slice cells
  pub fixed : HasFixed slice cells

-- the parameters that have a value in a tuple, rising
abbrev pub given_params : List (Option ℕ) → List ℕ
given_params tuple = filter (is_assigned tuple) (range_with_len 0 (length tuple))

-- the places of the open tuples that are in play for a column, and these tuples
abbrev pub open_places : OpenView → ℕ → List (ℕ × ℕ)
open_places table p = filter (is_in_play table.model table.slice p) table.places

abbrev pub open_tuples : OpenView → ℕ → List (List (Option ℕ))
open_tuples table p = map (tuple_at table.model) (open_places table p)

-- each place stands behind those before it
abbrev pub Rises : List (ℕ × ℕ) → Type 0
Rises [] = Unit {0}
Rises (place ∷ places) = All (λ other. is_behind place other ≡ true) places × Rises places

-- the numbers up to the last place of one of them
abbrev pub up_to : ℕ → List ℕ → List ℕ
up_to p [] = []
up_to p (q ∷ order) = if is_among (q ∷ order) p then q ∷ up_to p order else []

-- the columns of a slice up to one of them
abbrev pub columns_to : ModelView → Slice → ℕ → List ℕ
columns_to m slice p = up_to p (column_order m slice)

-- a tuple that is in play for a column grows in its slice, and has a value in the column and no other than in those
-- up to it
pub record IsInPlay (m : ModelView) (slice : Slice) (p : ℕ) (tuple : List (Option ℕ)) : Type 0 where
  pub grows : GrowsIn m slice tuple
  pub own : is_assigned tuple p ≡ true
  pub columns : (q : ℕ) → is_assigned tuple q ≡ true → is_among (columns_to m slice p) q ≡ true

-- a partial row that becomes another closes what it then contains, unless it stays as it is
abbrev pub IsClosedBy : OpenView → OpenView → ℕ → List (Option ℕ) → List (Option ℕ) → Type 0
IsClosedBy table after p row grown = ((grown ≡ row) × (after ≡ table)) ⊎ (after ≡ row_closed table p grown)

-- a table that keeps what it has of other columns, and its order
pub record Keeps (table after : OpenView) (p : ℕ) : Type 0 where
  pub model : after.model ≡ table.model
  pub slice : after.slice ≡ table.slice
  pub others : (q : ℕ) → q ≢ p → open_places after q ≡ open_places table q
  pub rises : Rises table.places → Rises after.places
