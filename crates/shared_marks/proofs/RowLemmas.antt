-- The rows of a file in parts, and which of them are tests.
use Rattle.std.proofs.Common.{◌≡◌, ℕ, ◌+◌, ◌-◌, ◌<◌, ◌≤◌, Bool, true, List, [], ◌∷◌, ◌++◌, map, length, get_or, take, drop, Option, None, is_some, ◌∙◌, sym, ap, arith}
use Rattle.std.specs.Prelude.{◌==◌, nat_lt, slice_range}
use Rattle.std.specs.List.{filter, list_all}
use Rattle.std.proofs.Math.Seq.{take-add}
use Rattle.std.proofs.lemmas.Bool.{and_from, eq-eqb, lt-ltb}
use Rattle.std.proofs.lemmas.List.{drop-drop, drop-map, map-append, take-map, take_all, take_more}
use Rattle.std.proofs.lemmas.List.Elements.{All-get_or, filter-append}
use Rattle.std.proofs.lemmas.List.Sums.{AllPass-from_list_all}
use Rattle.cov_model.specs.Fits.{FitsModel}
use Rattle.cov_model.specs.believed.Sound.{ModelView, param_at}
use Rattle.cov_model.specs.believed.Rows.{is_assigned, is_complete, value_in}
use Rattle.cov_model.specs.believed.Valid.{has_value, is_row, param_numbers}
use Rattle.row_text.specs.declared.row_file.FileRow.{FileRow}
use Rattle.definitions.proofs.Members.{all_pass}
use Rattle.definitions.proofs.SliceLemmas.{of_params}

-- two parts, one after the other
pub range_joined : {X : Type 0} (xs : List X) (from middle to : ℕ) → from ≤ middle → middle ≤ to
    → slice_range xs from middle ++ slice_range xs middle to ≡ slice_range xs from to
range_joined xs from middle to first second =
    let whole : to - from ≡ (middle - from) + (to - middle) = omega (arith, first, second) in
    let at : from + (middle - from) ≡ middle = omega (arith, first) in
    sym (ap (λ n. take n (drop from xs)) whole ∙ take-add (middle - from) (to - middle) (drop from xs)
    ∙ ap (λ rest. take (middle - from) (drop from xs) ++ take (to - middle) rest) (drop-drop (middle - from) from xs ∙ ap (λ n. drop n xs) at))

-- all rows
pub range_all : {X : Type 0} (xs : List X) (n : ℕ) → n ≡ length xs → slice_range xs 0 n ≡ xs
range_all xs n long = take_all (n - 0) xs (omega (arith, long))

-- a part, as other items
pub range_map : {X Y : Type 0} (f : X → Y) (xs : List X) (from to : ℕ) → map f (slice_range xs from to) ≡ slice_range (map f xs) from to
range_map f xs from to = sym (ap (take (to - from)) (drop-map f from xs) ∙ take-map f (to - from) (drop from xs))

-- a complete partial row that fits is a row
pub complete_is_row : (m : ModelView) (cells : List (Option ℕ)) → FitsModel m cells → is_complete cells ≡ true → is_row m cells ≡ true
complete_is_row m cells fits complete =
    and_from (length cells == length m.params) (list_all (has_value m cells) (param_numbers m)) (eq-eqb (length cells) (length m.params) fits.as_long)
    (all_pass (has_value m cells) (param_numbers m) (λ p has.
    let within : p < length cells = omega (arith, of_params m p has, fits.as_long) in
    let assigned = All-get_or (λ (cell : Option ℕ). is_some cell ≡ true) cells p None within (AllPass-from_list_all (λ cell. is_some cell) cells complete) in
    and_from (is_assigned cells p) (nat_lt (value_in cells p) (length (param_at m.params p).values)) assigned
    (lt-ltb (value_in cells p) (length (param_at m.params p).values) (fits.exist p assigned))))

-- one row of a file more, of those that pass a test
pub filter_more : (f : List (Option ℕ) → Bool) (rows : List FileRow) (i : ℕ) (d : FileRow) → i < length rows
    → filter f (map (λ row. row.cells) (take (i + 1) rows)) ≡ filter f (map (λ row. row.cells) (take i rows)) ++ filter f ((get_or rows i d).cells ∷ [])
filter_more f rows i d within =
    ap (λ rs. filter f (map (λ (row : FileRow). row.cells) rs)) (take_more rows i d within)
    ∙ ap (filter f) (map-append (λ (row : FileRow). row.cells) (take i rows) (get_or rows i d ∷ []))
    ∙ filter-append f (map (λ (row : FileRow). row.cells) (take i rows)) ((get_or rows i d).cells ∷ [])
