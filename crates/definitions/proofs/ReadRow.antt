-- Reading the line of a row gives the row.
use Rattle.std.proofs.Common.{◌≡◌, ℕ, suc, zero, ◌+◌, ◌%◌, ◌<◌, ◌≤◌, Bool, true, false, List, [], ◌∷◌, map, filter, length, get_or}
use Rattle.std.proofs.Common.{◌==◌, All, AllPairs, flat_map, Option, Some, None, is_some, position, sym, refl, ap, ap₂, ◌∙◌}
use Rattle.std.proofs.Common.{subst, ⊎_elim, arith, ne_eqb, eq-eqb, unwrap_or, true≢false, ltb-true, eqb-true, mod-lt, zero-add}
use Rattle.std.specs.List.{list_any, range_with_len}
use Rattle.std.proofs.lemmas.Bool.{and_parts, cond-true, cond-false, cases_eq}
use Rattle.std.proofs.lemmas.List.{get_or-map, length-map, get_or_default, same_lists}
use Rattle.std.proofs.lemmas.List.Sums.{AllPass-from_list_all, list_all-from_AllPass}
use Rattle.std.proofs.lemmas.List.Folds.{list_any_none, list_any_at}
use Rattle.std.proofs.lemmas.List.Elements.{All-map}
use Rattle.std.proofs.lemmas.List.FromFn.{length-range_with_len, get_or-range_with_len, get_or-map-range_with_len, length-map-range_with_len}
use Rattle.std.specs.Option.{option_map_or}
use Rattle.value_text.specs.believed.Texts.{is_same_text}
use Rattle.cov_model.specs.declared.parameter.Value.{Value}
use Rattle.cov_model.specs.declared.parameter.Param.{Param}
use Rattle.cov_model.specs.believed.Sound.{ModelView, IsSound, IsSoundValue, param_at}
use Rattle.cov_model.specs.believed.Meaning.{value_at}
use Rattle.cov_model.specs.believed.Names.{is_mark}
use Rattle.cov_model.specs.believed.Rows.{value_in, is_complete}
use Rattle.cov_model.specs.believed.Valid.{is_row, has_value, param_numbers}
use Rattle.definitions.specs.believed.Report.{printed, cell_text, times_given}
use Rattle.definitions.specs.believed.RowFile.{named_param, named_value, columns_of, cell_at, row_of_line, cells_of_line}
use Rattle.definitions.proofs.Cells.{IsCell, IsRow, joined, cells_of_line-joined}
use Rattle.definitions.proofs.Names.{same_itself, IsUnmarked, marked_apart, apart, name_cell, marked_cell}
use Rattle.value_text.proofs.ListLemmas.{position_is}

-- what is read past the end of the parameters, and of the values
abbrev no_param : Param
no_param = param_at [] 0

abbrev no_value : Value
no_value = record { names = []; weight = 0; negative = false }

-- a number of a range stands in it once
filter_above : (test : ℕ → Bool) (a n p : ℕ) → ((k : ℕ) → a ≤ k → k < a + n → test k ≡ (k == p)) → p < a → filter test (range_with_len a n) ≡ []
filter_above test a zero p tells above = refl
filter_above test a (suc n) p tells above =
    cond-false (test a) _ _ (tells a (omega arith) (omega arith) ∙ ne_eqb a p (λ e. omega arith))
    ∙ filter_above test (a + 1) n p (λ k least most. tells k (omega arith) (omega arith)) (omega arith)

filter_range : (test : ℕ → Bool) (a n p : ℕ) → ((k : ℕ) → a ≤ k → k < a + n → test k ≡ (k == p)) → a ≤ p → p < a + n → filter test (range_with_len a n) ≡ p ∷ []
filter_range test a zero p tells least most = absurd (omega arith)
filter_range test a (suc n) p tells least most =
    let rest = λ (k : ℕ) (low : a + 1 ≤ k) (high : k < a + 1 + n). tells k (omega arith) (omega arith) in
    ⊎_elim
    (λ (e : a ≡ p).
    cond-true (test a) _ _ (tells a (omega arith) (omega arith) ∙ eq-eqb a p e)
    ∙ ap₂ (λ x xs. x ∷ xs) e (filter_above test (a + 1) n p rest (omega arith)))
    (λ (ne : a ≡ p → ⊥).
    cond-false (test a) _ _ (tells a (omega arith) (omega arith) ∙ ne_eqb a p ne)
    ∙ filter_range test (a + 1) n p rest (omega arith) (omega arith))
    (cases_eq a p)

-- the line of names
abbrev pub header : ModelView → List (List ℕ)
header m = map (λ param. param.name) m.params

-- a cell of it names its own parameter
pub named_param-header : (m : ModelView) → IsSound m → (p : ℕ) → p < length m.params → named_param m (get_or (header m) p []) ≡ Some p
named_param-header m sound p within =
    let own : get_or (header m) p [] ≡ (param_at m.params p).name = get_or-map (λ param. param.name) m.params p no_param [] within in
    rw own (position_is (λ param. is_same_text m.fold param.name (param_at m.params p).name) m.params p no_param within
    (λ k before. sound.distinct k p no_param before within)
    (same_itself m.fold (param_at m.params p).name))

-- a parameter has its own column
pub columns_of-header : (m : ModelView) → IsSound m → (p : ℕ) → p < length m.params → columns_of m (header m) p ≡ p ∷ []
columns_of-header m sound p within =
    let size : length (header m) ≡ length m.params = length-map m.params (λ param. param.name) in
    filter_range (λ column. option_map_or (λ q. q == p) (named_param m (get_or (header m) column [])) false) 0 (length (header m)) p
    (λ k least most. ap (λ found. option_map_or (λ q. q == p) found false) (named_param-header m sound k (omega arith)))
    (omega arith) (omega arith)

-- a fact of each parameter
pub each_param : (m : ModelView) (P : ℕ → Type 0) → ((p : ℕ) → p < length m.params → P p) → All P (param_numbers m)
each_param m P holds p d within =
    let few : p < length m.params = omega (arith, length-range_with_len 0 (length m.params)) in
    subst P (sym (get_or-range_with_len 0 (length m.params) p d few ∙ zero-add p)) (holds p few)

-- the cell is a printed name of the value
abbrev names_value : ModelView → List ℕ → Value → Bool
names_value m cell value = list_any (λ name. is_same_text m.fold (printed m value name) cell) value.names

-- each name of a value is without the mark
unmarked : (prefix : ℕ) (value : Value) (k : ℕ) (d : List ℕ) → IsSoundValue prefix value → k < length value.names → IsUnmarked prefix (get_or value.names k d)
unmarked prefix value k d sound within = record {
  some = (name_cell _ (sound.named k d within)).some;
  first = sound.unmarked k d within;
}

-- a printed name of a value is none of an earlier value
named_value-printed : (m : ModelView) → is_mark m.prefix ≡ true → (values : List Value) → All (IsSoundValue m.prefix) values
    → AllPairs (λ a b. is_same_text m.fold a b ≡ false) (flat_map (λ value. value.names) values)
    → (v k : ℕ) → v < length values → k < length (get_or values v no_value).names
    → position (names_value m (printed m (get_or values v no_value) (get_or (get_or values v no_value).names k []))) values ≡ Some v
named_value-printed m mark values sound distinct v k within in_v =
    position_is (names_value m cell) values v no_value within
    (λ u before. list_any_none (λ name. is_same_text m.fold (printed m (get_or values u no_value) name) cell) (get_or values u no_value).names
    (λ j d in_u.
    marked_apart m.fold (get_or values u no_value).negative (get_or values v no_value).negative m.prefix
    (get_or (get_or values u no_value).names j d) (get_or (get_or values v no_value).names k []) mark
    (unmarked m.prefix (get_or values u no_value) j d (sound u no_value (omega arith)) in_u)
    (unmarked m.prefix (get_or values v no_value) k [] (sound v no_value within) in_v)
    (rw (get_or_default (get_or values u no_value).names j d [] in_u)
    (apart (λ a b. is_same_text m.fold a b ≡ false) (λ value. value.names) values u v j k no_value [] distinct before within in_u in_v))))
    (list_any_at (λ name. is_same_text m.fold (printed m (get_or values v no_value) name) cell) (get_or values v no_value).names k [] in_v (same_itself m.fold cell))
  where
    cell : List ℕ
    cell = printed m (get_or values v no_value) (get_or (get_or values v no_value).names k [])

-- what a row gives a parameter is the number of one of its values
pub record IsGiven (m : ModelView) (row : List (Option ℕ)) (p : ℕ) : Type 0 where
  pub cell : Some (value_in row p) ≡ get_or row p None
  pub within : value_in row p < length (param_at m.params p).values

some_value : (cell : Option ℕ) → is_some cell ≡ true → Some (unwrap_or cell 0) ≡ cell
some_value None is = absurd (true≢false (sym is))
some_value (Some v) is = refl

pub row_given : (m : ModelView) (row : List (Option ℕ)) → is_row m row ≡ true → (p : ℕ) → p < length m.params → IsGiven m row p
row_given m row is p within =
    let few : p < length (param_numbers m) = omega (arith, length-range_with_len 0 (length m.params)) in
    let all : All (λ q. has_value m row q ≡ true) (param_numbers m) = AllPass-from_list_all (has_value m row) (param_numbers m) (and_parts _ _ is).1 in
    let here : has_value m row (get_or (param_numbers m) p 0) ≡ true = all p 0 few in
    let same : get_or (param_numbers m) p 0 ≡ 0 + p = get_or-range_with_len 0 (length m.params) p 0 within in
    let parts = and_parts _ _ (subst (λ q. has_value m row q ≡ true) (same ∙ zero-add p) here) in
    record {
      cell = some_value (get_or row p None) parts.0;
      within = ltb-true _ _ parts.1;
    }

-- a cell of a row's line is a cell, and names the value that the row gives
pub record IsCellOf (m : ModelView) (earlier : List (List (Option ℕ))) (row : List (Option ℕ)) (p : ℕ) : Type 0 where
  pub cell : IsCell (cell_text m earlier row p)
  pub value : named_value m p (cell_text m earlier row p) ≡ get_or row p None

pub cell_text_cell : (m : ModelView) → IsSound m → (earlier : List (List (Option ℕ))) (row : List (Option ℕ)) → is_row m row ≡ true → (p : ℕ)
    → p < length m.params → IsCellOf m earlier row p
cell_text_cell m sound earlier row is p within =
    let given = row_given m row is p within in
    let param = sound.params p no_param within in
    let names = (value_at m p (value_in row p)).names in
    let turn = times_given earlier p (value_in row p) % length names in
    let value = param.values (value_in row p) no_value given.within in
    let named : turn < length names = mod-lt _ value.some in
    record {
      cell = marked_cell (value_at m p (value_in row p)).negative m.prefix (get_or names turn []) sound.prefix (name_cell (get_or names turn []) (value.named turn [] named));
      value = named_value-printed m sound.prefix (param_at m.params p).values param.values param.distinct (value_in row p) turn given.within named ∙ given.cell;
    }

-- the cells of a row's line
abbrev pub row_cells : ModelView → List (List (Option ℕ)) → List (Option ℕ) → List (List ℕ)
row_cells m earlier row = map (cell_text m earlier row) (param_numbers m)

pub header_row : (m : ModelView) → IsSound m → IsRow (header m)
header_row m sound = record {
  some = omega (arith, sound.some, length-map m.params (λ param. param.name));
  cells = All-map IsCell (λ param. param.name) m.params (λ k d within. name_cell _ (sound.params k d within).named);
}

pub row_cells_row : (m : ModelView) → IsSound m → (earlier : List (List (Option ℕ))) (row : List (Option ℕ)) → is_row m row ≡ true
    → IsRow (row_cells m earlier row)
row_cells_row m sound earlier row is = record {
  some = omega (arith, sound.some, length-map-range_with_len (cell_text m earlier row) 0 (length m.params));
  cells = All-map IsCell (cell_text m earlier row) (param_numbers m) (each_param m (λ p. IsCell (cell_text m earlier row p)) (λ p within. (cell_text_cell m sound earlier row is p within).cell));
}

-- a row's line is read as the row
pub row_of_line-joined : (m : ModelView) → IsSound m → (earlier : List (List (Option ℕ))) (row : List (Option ℕ)) → is_row m row ≡ true
    → row_of_line m (header m) (joined (row_cells m earlier row)) ≡ row
row_of_line-joined m sound earlier row is =
    let cells = row_cells_row m sound earlier row is in
    let size : length row ≡ length m.params = eqb-true _ _ (and_parts _ _ is).0 in
    let line = joined (row_cells m earlier row) in
    let long : length (row_of_line m (header m) line) ≡ length m.params = length-map-range_with_len
    (λ p. named_value m p (cell_at (cells_of_line line) (columns_of m (header m) p))) 0 (length m.params) in
    same_lists (row_of_line m (header m) line) row (long ∙ sym size) (λ p d within.
    let few : p < length m.params = omega arith in
    get_or-map-range_with_len (λ p. named_value m p (cell_at (cells_of_line line) (columns_of m (header m) p))) 0 (length m.params) p p d few (zero-add p)
    ∙ ap₂ (λ cells columns. named_value m p (cell_at cells columns)) (cells_of_line-joined (row_cells m earlier row) cells.some cells.cells)
    (columns_of-header m sound p few)
    ∙ ap (named_value m p) (get_or-map-range_with_len (cell_text m earlier row) 0 (length m.params) p p [] few (zero-add p))
    ∙ (cell_text_cell m sound earlier row is p few).value
    ∙ get_or_default row p None d (omega arith))

-- a row has a value everywhere
pub complete_row : (m : ModelView) (row : List (Option ℕ)) → is_row m row ≡ true → is_complete row ≡ true
complete_row m row is =
    let size : length row ≡ length m.params = eqb-true _ _ (and_parts _ _ is).0 in
    list_all-from_AllPass is_some row (λ k d within.
    let few : k < length m.params = omega arith in
    subst (λ cell. is_some cell ≡ true) ((row_given m row is k few).cell ∙ get_or_default row k None d within) refl)
