-- Where the tuples of a slice have their bits.
use Rattle.std.specs.Prelude.{◌≡◌, ℕ, ◌+◌, ◌-◌, ◌<◌, ◌*◌, ◌&&◌, Bool, true, false, List, [], ◌∷◌, length, Option, Some, None, ◌==◌, find}
use Rattle.std.specs.Prelude.{nat_lt, option_and_then, option_map, slice_index_or, slice_set, if◌then◌else◌}
use Rattle.std.specs.List.{filter, flat_map, range_with_len}
use Rattle.std.specs.Option.{option_or}
use Rattle.cov_model.specs.declared.slice.Slice.{Slice}
use Rattle.cov_model.specs.believed.Sound.{ModelView}
use Rattle.definitions.specs.believed.Demand.{demanded_sets, tuples_in}
use Rattle.uncovered_table.specs.Digits.{cell_digit, digit_of, number_of, own_values, with_digit}
use Rattle.uncovered_table.specs.declared.block.Line.{Line}
use Rattle.uncovered_table.specs.Open.{OpenView, is_after}
use Rattle.uncovered_table.specs.Places.{ends_with_column, places_in, set_at, slice_places, slice_start}

-- the first bit of a set: how many tuples the sets before it have in the slice
abbrev pub first_bit : ModelView → Slice → ℕ → ℕ
first_bit m slice set = length (flat_map (places_in m slice) (range_with_len 0 set))

-- how many tuples a set has in the slice
abbrev pub tuple_count : ModelView → Slice → ℕ → ℕ
tuple_count m slice set = length (tuples_in m (set_at m set) slice)

-- the bit of a place
abbrev pub bit_of : ModelView → Slice → ℕ × ℕ → ℕ
bit_of m slice place = first_bit m slice place.0 + (place.1 - slice_start m (set_at m place.0) slice)

-- the bit of a place is set
abbrev pub is_marked : ModelView → Slice → List Bool → ℕ × ℕ → Bool
is_marked m slice bits place = slice_index_or bits (bit_of m slice place) false

-- the table of the places whose bits are set
abbrev pub marked : ModelView → Slice → List Bool → OpenView
marked m slice bits = record { model = m; slice = slice; places = filter (is_marked m slice bits) (slice_places m slice) }

-- the sets in play for a column that have tuples in the slice
abbrev pub sets_in_play : ModelView → Slice → ℕ → List ℕ
sets_in_play m slice column =
    filter (λ set. ends_with_column m slice column (set_at m set) && nat_lt 0 (tuple_count m slice set)) (range_with_len 0 (length (demanded_sets m)))

-- the bit of the tuple of a set that has these digits
abbrev pub held_bit : ModelView → Slice → (ℕ → Option ℕ) → ℕ → Option ℕ
held_bit m slice digits set = option_map (λ n. first_bit m slice set + n) (number_of (own_values m slice) digits (set_at m set))

-- how many bits are set, of one or none
abbrev pub bit_count : List Bool → Option ℕ → ℕ
bit_count bits None = 0
bit_count bits (Some bit) = if slice_index_or bits bit false then 1 else 0

-- how many open tuples of a set have these digits: one or none
abbrev pub held_count : ModelView → Slice → List Bool → (ℕ → Option ℕ) → ℕ → ℕ
held_count m slice bits digits set = bit_count bits (held_bit m slice digits set)

-- the bits with one of them cleared, or none
abbrev pub cleared : Option ℕ → List Bool → List Bool
cleared None bits = bits
cleared (Some bit) bits = slice_set bits bit false

-- the bits with those of the tuples of sets cleared that have these digits
abbrev pub all_cleared : ModelView → Slice → (ℕ → Option ℕ) → List Bool → List ℕ → List Bool
all_cleared m slice digits bits [] = bits
all_cleared m slice digits bits (set ∷ sets) = all_cleared m slice digits (cleared (held_bit m slice digits set) bits) sets

-- how many places of a set, the first of which has this rank, do not stand behind a place
abbrev pub skipped : ℕ → Option (ℕ × ℕ) → ℕ → ℕ
skipped start None set = 0
skipped start (Some place) set = if place.0 == set then place.1 - start + 1 else 0

-- the first open tuple of a set behind a place, and of several sets
abbrev pub next_in : ModelView → Slice → List Bool → Option (ℕ × ℕ) → ℕ → Option (ℕ × ℕ)
next_in m slice bits from set = find (λ place. is_marked m slice bits place && is_after from place) (places_in m slice set)

abbrev pub next_of : ModelView → Slice → List Bool → Option (ℕ × ℕ) → List ℕ → Option (ℕ × ℕ)
next_of m slice bits from [] = None
next_of m slice bits from (set ∷ sets) = option_or (next_in m slice bits from set) (next_of m slice bits from sets)

-- what is known of a set in play for a column
pub record InPlay (m : ModelView) (slice : Slice) (column set : ℕ) : Type 0 where
  pub exists : set < length (demanded_sets m)
  pub ends : ends_with_column m slice column (set_at m set) ≡ true
  pub some : 0 < tuple_count m slice set

-- the bit of a line for a digit, where there is one
abbrev pub line_bit : Line → Option ℕ → Option ℕ
line_bit line digit = option_map (λ d. line.first + d * line.step) digit

-- how many open tuples of a set cells contain with this value in a column: one or none
abbrev pub value_held : ModelView → Slice → List Bool → List (Option ℕ) → ℕ → ℕ → ℕ → ℕ
value_held m slice bits cells column v set =
    bit_count bits (option_and_then (λ d. held_bit m slice (with_digit (cell_digit (own_values m slice) cells) column d) set)
    (digit_of (own_values m slice column) v))
