-- The places of the demanded tuples of a slice. (The order of sets and tuples is this project's rule.)
-- A place is the number of a demanded set, and the rank of a tuple of it.
use Rattle.std.specs.Prelude.{ℕ, Bool, true, false, not, ◌&&◌, ◌||◌, List, [], map, length, sum_by, Option, ◌==◌, nat_lt, slice_index_or, take_while}
use Rattle.std.specs.List.{flat_map, range_with_len}
use Rattle.cov_model.specs.declared.slice.Slice.{Slice}
use Rattle.cov_model.specs.declared.slice.Slice.TheVariants.{Positive, Negative}
use Rattle.cov_model.specs.believed.Sound.{ModelView}
use Rattle.cov_model.specs.believed.Slices.{slices}
use Rattle.definitions.specs.believed.Demand.{demanded_sets, tuples_in, tuples_of}
use Rattle.definitions.specs.believed.Completion.{column_order}
use Rattle.definitions.specs.believed.Growth.{ends_with}

-- the demanded set of a number, and the tuple of a place
abbrev pub set_at : ModelView → ℕ → List ℕ
set_at m set = slice_index_or (demanded_sets m) set []

abbrev pub tuple_at : ModelView → ℕ × ℕ → List (Option ℕ)
tuple_at m place = slice_index_or (tuples_of m (set_at m place.0)) place.1 []

-- two slices are the same
abbrev pub is_slice : Slice → Slice → Bool
is_slice Positive Positive = true
is_slice (Negative p v) (Negative q w) = (p == q) && (v == w)
is_slice slice other = false

-- how many tuples of a set stand in the slices before
abbrev pub slice_start : ModelView → List ℕ → Slice → ℕ
slice_start m set slice = sum_by (λ before. length (tuples_in m set before)) (take_while (λ before. not (is_slice before slice)) (slices m))

-- the places of the tuples of a set in a slice, and of all sets, set by set
abbrev pub places_in : ModelView → Slice → ℕ → List (ℕ × ℕ)
places_in m slice set = map (λ rank. (set, rank)) (range_with_len (slice_start m (set_at m set) slice) (length (tuples_in m (set_at m set) slice)))

abbrev pub slice_places : ModelView → Slice → List (ℕ × ℕ)
slice_places m slice = flat_map (places_in m slice) (range_with_len 0 (length (demanded_sets m)))

-- the last parameter of a set in the column order of a slice is this one
abbrev pub ends_with_column : ModelView → Slice → ℕ → List ℕ → Bool
ends_with_column m slice p set = ends_with (column_order m slice) p set

-- the place is one of a set in play for a column
abbrev pub is_in_play : ModelView → Slice → ℕ → ℕ × ℕ → Bool
is_in_play m slice p place = ends_with_column m slice p (set_at m place.0)

-- the place is another one and stands behind, by its set and then by its rank
abbrev pub is_behind : ℕ × ℕ → ℕ × ℕ → Bool
is_behind from place = nat_lt from.0 place.0 || ((from.0 == place.0) && nat_lt from.1 place.1)

-- two places are the same
abbrev pub is_place : ℕ × ℕ → ℕ × ℕ → Bool
is_place a b = (a.0 == b.0) && (a.1 == b.1)
