-- The growth of a suite: column by column in each slice, each partial row is extended by the value that
-- covers most, then the tuples that are left are put into rows. (IPOG of Lei and others 2007; ties, the
-- treatment of constraints by extendability, and the order of slices are this project's rules.)
-- Each step answers its rows, the tuples that it omits, and the partial rows whose extendability it asks,
-- in the order in which it asks.
use Rattle.std.specs.Prelude.{ℕ, Bool, true, false, ◌&&◌, not, List, [], ◌∷◌, ◌++◌, map, length, filter_map, Option, Some, None, ◌==◌, slice_index_or, if◌then◌else◌}
use Rattle.std.specs.List.{filter, flat_map, list_any, last_or}
use Rattle.std.specs.Option.{option_map_or}
use Rattle.cov_model.specs.declared.slice.Slice.{Slice}
use Rattle.cov_model.specs.declared.slice.Slice.TheVariants.{Positive, Negative}
use Rattle.cov_model.specs.believed.Sound.{ModelView}
use Rattle.cov_model.specs.believed.Rows.{contains, is_assigned, value_in, with_value}
use Rattle.cov_model.specs.believed.Valid.{negatives}
use Rattle.cov_model.specs.believed.Slices.{slices}
use Rattle.definitions.specs.believed.Demand.{is_among, demanded_sets, tuples_in}
use Rattle.definitions.specs.believed.Completion.{falling, column_order, preferred_values, is_extendable, first_completion}
use Rattle.definitions.specs.believed.Seeds.{distinct, asked_seeds, kept_seeds}

-- no parameter has one value in the one partial row and another in the other
abbrev pub agrees : List (Option ℕ) → List (Option ℕ) → Bool
agrees [] cells = true
agrees (given ∷ row) [] = true
agrees (Some v ∷ row) (Some w ∷ cells) = (v == w) && agrees row cells
agrees (Some v ∷ row) (None ∷ cells) = agrees row cells
agrees (None ∷ row) (cell ∷ cells) = agrees row cells

-- the partial row with the values of another that agrees with it
abbrev pub union : List (Option ℕ) → List (Option ℕ) → List (Option ℕ)
union [] cells = cells
union (given ∷ row) [] = given ∷ row
union (Some v ∷ row) (cell ∷ cells) = Some v ∷ union row cells
union (None ∷ row) (cell ∷ cells) = cell ∷ union row cells

-- no row contains the tuple
abbrev pub is_uncovered : List (List (Option ℕ)) → List (Option ℕ) → Bool
is_uncovered rows tuple = not (list_any (λ row. contains row tuple) rows)

-- the gain of a row: how many of the tuples it contains that none of the rows contains
abbrev pub gain : List (List (Option ℕ)) → List (List (Option ℕ)) → List (Option ℕ) → ℕ
gain tuples rows row = length (filter (contains row) (filter (is_uncovered rows) tuples))

-- a partial row after a step on it, and what the step asked
pub record Filled : Type 0 where
  pub row : List (Option ℕ)
  pub asked : List (List (Option ℕ))

-- the first extendable one of the candidates, or the row itself where none is; each is asked up to that one
abbrev pub first_extendable : (List (Option ℕ) → Bool) → List (Option ℕ) → List (List (Option ℕ)) → Filled
first_extendable extends row [] = record { row = row; asked = [] }
first_extendable extends row (candidate ∷ candidates) =
    let later = first_extendable extends row candidates in
    if extends candidate then record { row = candidate; asked = candidate ∷ [] }
    else record { row = later.row; asked = candidate ∷ later.asked }

-- the values of a column by falling gain in a row, those of equal gain in preference order, without those
-- that gain nothing
abbrev pub values_by_gain : List (List (Option ℕ)) → List (List (Option ℕ)) → List (Option ℕ) → ℕ → List ℕ → List ℕ
values_by_gain tuples rows row p values = falling (length tuples) (λ v. gain tuples rows (with_value row p v)) values

-- one partial row in a column: without a value there it gets the first one by falling gain that leaves it
-- extendable, if there is one
abbrev pub fill : (List (Option ℕ) → Bool) → ℕ → List ℕ → List (List (Option ℕ)) → List (List (Option ℕ)) → List (Option ℕ) → Filled
fill extends p values tuples rows row =
    if is_assigned row p then record { row = row; asked = [] }
    else first_extendable extends row (map (with_value row p) (values_by_gain tuples rows row p values))

-- what a step on all partial rows of a slice gives
pub record Grown : Type 0 where
  pub rows : List (List (Option ℕ))
  pub omitted : List (List (Option ℕ))
  pub asked : List (List (Option ℕ))

-- horizontal growth of a column: the partial rows in order, those before being done
abbrev pub across : (List (Option ℕ) → Bool) → ℕ → List ℕ → List (List (Option ℕ)) → List (List (Option ℕ)) → List (List (Option ℕ)) → Grown
across extends p values tuples done [] = record { rows = done; omitted = []; asked = [] }
across extends p values tuples done (row ∷ rows) =
    let filled = fill extends p values tuples (done ++ row ∷ rows) row in
    let later = across extends p values tuples (done ++ filled.row ∷ []) rows in
    record { rows = later.rows; omitted = later.omitted; asked = filled.asked ++ later.asked }

-- the partial rows after a tuple was offered to them, whether one took it, and what was asked
pub record Joined : Type 0 where
  pub rows : List (List (Option ℕ))
  pub taken : Bool
  pub asked : List (List (Option ℕ))

-- the first partial row that agrees with the tuple, and whose union with it is extendable, becomes the union
abbrev pub join : (List (Option ℕ) → Bool) → List (Option ℕ) → List (List (Option ℕ)) → Joined
join extends tuple [] = record { rows = []; taken = false; asked = [] }
join extends tuple (row ∷ rows) =
    let later = join extends tuple rows in
    if not (agrees row tuple) then record { rows = row ∷ later.rows; taken = later.taken; asked = later.asked }
    else if extends (union row tuple) then record { rows = union row tuple ∷ rows; taken = true; asked = union row tuple ∷ [] }
    else record { rows = row ∷ later.rows; taken = later.taken; asked = union row tuple ∷ later.asked }

-- a tuple that no row contains: a row takes it, or it becomes a new row, or it is omitted
abbrev pub settle : (List (Option ℕ) → Bool) → List (Option ℕ) → List (List (Option ℕ)) → Grown
settle extends tuple rows =
    let joined = join extends tuple rows in
    if joined.taken then record { rows = joined.rows; omitted = []; asked = joined.asked }
    else if extends tuple then record { rows = rows ++ tuple ∷ []; omitted = []; asked = joined.asked ++ tuple ∷ [] }
    else record { rows = rows; omitted = tuple ∷ []; asked = joined.asked ++ tuple ∷ [] }

-- vertical growth of a column: the tuples in order, without those that a row contains by then
abbrev pub down : (List (Option ℕ) → Bool) → List (List (Option ℕ)) → List (List (Option ℕ)) → Grown
down extends [] rows = record { rows = rows; omitted = []; asked = [] }
down extends (tuple ∷ tuples) rows =
    let settled = if is_uncovered rows tuple then settle extends tuple rows else record { rows = rows; omitted = []; asked = [] } in
    let later = down extends tuples settled.rows in
    record { rows = later.rows; omitted = settled.omitted ++ later.omitted; asked = settled.asked ++ later.asked }

-- a column: horizontal, then vertical growth
abbrev pub column : (List (Option ℕ) → Bool) → ℕ → List ℕ → List (List (Option ℕ)) → List (List (Option ℕ)) → Grown
column extends p values tuples rows =
    let filled = across extends p values tuples [] rows in
    let settled = down extends tuples filled.rows in
    record { rows = settled.rows; omitted = settled.omitted; asked = filled.asked ++ settled.asked }

-- the last parameter of a set in a column order is this one
abbrev pub ends_with : List ℕ → ℕ → List ℕ → Bool
ends_with order p set = option_map_or (λ q. q == p) (last_or None (filter (is_among set) order)) false

-- the sets in play for a column: the demanded sets of which it is the last parameter in column order
abbrev pub sets_in_play : ModelView → List ℕ → ℕ → List (List ℕ)
sets_in_play m order p = filter (ends_with order p) (demanded_sets m)

-- their tuples in the slice, set by set; in a negative slice a set without its fixed parameter has none
abbrev pub tuples_in_play : ModelView → Slice → ℕ → List (List (Option ℕ))
tuples_in_play m slice p = flat_map (λ set. tuples_in m set slice) (sets_in_play m (column_order m slice) p)

-- the columns in order
abbrev pub columns : ModelView → List (List ℕ) → Slice → List ℕ → List (List (Option ℕ)) → Grown
columns m pref slice [] rows = record { rows = rows; omitted = []; asked = [] }
columns m pref slice (p ∷ params) rows =
    let grown = column (is_extendable m slice) p (slice_index_or (preferred_values m pref slice) p []) (tuples_in_play m slice p) rows in
    let later = columns m pref slice params grown.rows in
    record { rows = later.rows; omitted = grown.omitted ++ later.omitted; asked = grown.asked ++ later.asked }

-- the partial row is of this slice, given that it has at most one negative value
abbrev pub is_of_slice : ModelView → Slice → List (Option ℕ) → Bool
is_of_slice m Positive cells = length (negatives m cells) == 0
is_of_slice m (Negative q v) cells = is_among (negatives m cells) q && (value_in cells q == v)

-- the columns of a slice from these partial rows; after the last column each partial row becomes its first completion,
-- equal rows once
abbrev pub slice_grown_from : ModelView → List (List ℕ) → Slice → List (List (Option ℕ)) → Grown
slice_grown_from m pref slice rows =
    let grown = columns m pref slice (column_order m slice) rows in
    record { rows = distinct (filter_map (first_completion m pref slice) grown.rows); omitted = grown.omitted; asked = grown.asked ++ grown.rows }

-- a slice starts with its kept seeds
abbrev pub slice_growth : ModelView → List (List ℕ) → List (ℕ × List (Option ℕ)) → Slice → Grown
slice_growth m pref seeds slice = slice_grown_from m pref slice (filter (is_of_slice m slice) (kept_seeds m seeds))

-- the slices in order
abbrev pub slices_growth : ModelView → List (List ℕ) → List (ℕ × List (Option ℕ)) → List Slice → Grown
slices_growth m pref seeds [] = record { rows = []; omitted = []; asked = [] }
slices_growth m pref seeds (slice ∷ rest) =
    let grown = slice_growth m pref seeds slice in
    let later = slices_growth m pref seeds rest in
    record { rows = grown.rows ++ later.rows; omitted = grown.omitted ++ later.omitted; asked = grown.asked ++ later.asked }

-- the suite, the omission list, and the questions of a generating run, of which the seeds' come first
abbrev pub growth : ModelView → List (List ℕ) → List (ℕ × List (Option ℕ)) → Grown
growth m pref seeds =
    let grown = slices_growth m pref seeds (slices m) in
    record { rows = grown.rows; omitted = grown.omitted; asked = asked_seeds m seeds ++ grown.asked }
