-- What a partial row can become in a slice: the order of the columns and of the values, its completions,
-- and whether it is extendable. (Lei and others 2007 for columns by falling number of values; the orders
-- among equals are this project's rules.)
use Rattle.std.specs.Prelude.{ℕ, zero, suc, Bool, ◌&&◌, List, [], ◌∷◌, ◌++◌, map, length, sum_by, Option}
use Rattle.std.specs.Prelude.{Some, None, ◌==◌, nat_le, slice_index_or, if◌then◌else◌, find}
use Rattle.std.specs.List.{filter, flat_map, list_all, list_any}
use Rattle.cov_model.specs.declared.slice.Slice.{Slice}
use Rattle.cov_model.specs.believed.Sound.{ModelView}
use Rattle.cov_model.specs.believed.Rows.{contains}
use Rattle.cov_model.specs.believed.Meaning.{body_holds}
use Rattle.cov_model.specs.believed.Valid.{negatives, param_numbers}
use Rattle.cov_model.specs.believed.Slices.{slice_of, slice_values}
use Rattle.definitions.specs.believed.Demand.{is_among}

-- the items whose number is from 1 to n, by falling number, those of one number in the order of the list
abbrev pub falling : {X : Type 0} → ℕ → (X → ℕ) → List X → List X
falling zero number items = []
falling (suc n) number items = filter (λ item. number item == suc n) items ++ falling n number items

-- how many values a parameter has in a slice
abbrev pub count_in : ModelView → Slice → ℕ → ℕ
count_in m slice p = length (slice_index_or (slice_values m slice) p [])

-- the column order of a slice: the parameters by falling number of their values in the slice, those of
-- one number in declared order; the parameters without a value there come last
abbrev pub column_order : ModelView → Slice → List ℕ
column_order m slice =
    falling (sum_by length (slice_values m slice)) (count_in m slice) (param_numbers m)
    ++ filter (λ p. count_in m slice p == 0) (param_numbers m)

-- a parameter's values in a slice, in preference order; the lists give all its values so
abbrev pub preferred_at : ModelView → List (List ℕ) → Slice → ℕ → List ℕ
preferred_at m pref slice p = filter (is_among (slice_index_or (slice_values m slice) p [])) (slice_index_or pref p [])

-- the same of each parameter
abbrev pub preferred_values : ModelView → List (List ℕ) → Slice → List (List ℕ)
preferred_values m pref slice = map (preferred_at m pref slice) (param_numbers m)

-- those of the values that a cell can have: its own, or any where it has none
abbrev pub cell_values : List ℕ → Option ℕ → List ℕ
cell_values values None = values
cell_values values (Some v) = filter (λ w. w == v) values

-- the completions of a partial row: the rows that contain it and give each parameter one of its listed
-- values, the first parameter's choice changing last, each parameter's choices in the order of its list
abbrev pub completions : List (List ℕ) → List (Option ℕ) → List (List (Option ℕ))
completions [] cells = if contains [] cells then [] ∷ [] else []
completions (values ∷ rest) [] = flat_map (λ v. map (λ row. Some v ∷ row) (completions rest [])) values
completions (values ∷ rest) (cell ∷ cells) =
    flat_map (λ v. map (λ row. Some v ∷ row) (completions rest cells)) (cell_values values cell)

-- every constraint holds on the row
abbrev pub meets_rules : ModelView → List (Option ℕ) → Bool
meets_rules m row = list_all (λ rule. body_holds m rule.body row) m.rules

-- a partial row is extendable in a slice if a row with values of the slice contains it and meets every
-- constraint; such a row holds at most one negative value, so it is valid
abbrev pub is_extendable : ModelView → Slice → List (Option ℕ) → Bool
is_extendable m slice cells = list_any (meets_rules m) (completions (slice_values m slice) cells)

-- the first of its completions in preference order that meets every constraint
abbrev pub first_completion : ModelView → List (List ℕ) → Slice → List (Option ℕ) → Option (List (Option ℕ))
first_completion m pref slice cells = find (meets_rules m) (completions (preferred_values m pref slice) cells)

-- at most one of the values is negative, so the partial row belongs to a slice
abbrev pub has_slice : ModelView → List (Option ℕ) → Bool
has_slice m cells = nat_le (length (negatives m cells)) 1

-- the partial row has at most one negative value and is extendable in the slice of that value, or in the
-- positive one
abbrev pub can_be_served : ModelView → List (Option ℕ) → Bool
can_be_served m cells = has_slice m cells && is_extendable m (slice_of m cells) cells
