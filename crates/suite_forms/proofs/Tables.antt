-- The text of a suite as it is written cell by cell and row by row.
use Rattle.std.proofs.Common.{◌≡◌, ℕ, ◌+◌, ◌<◌, ◌≤◌, ◌==◌, Bool, false, List, [], ◌∷◌, ◌++◌, length, get_or, take, drop, sym, ap, ap₂, ◌∙◌, arith, append_assoc, ne_eqb}
use Rattle.std.specs.Prelude.{Option, None}
use Rattle.std.specs.List.{AllByRecursion}
use Rattle.std.proofs.lemmas.List.{append-nil, drop_all, get_or-map, length-map, take_more, drop_more}
use Rattle.std.proofs.lemmas.List.Elements.{All-from_recursion}
use Rattle.cov_model.specs.declared.parameter.Param.{Param}
use Rattle.cov_model.specs.believed.Sound.{ModelView, no_param, param_at}
use Rattle.row_forms.specs.declared.row_form.RowForm.{RowForm}
use Rattle.row_forms.specs.believed.Forms.{piece}
use Rattle.row_forms.specs.Laws.{IsTable}
use Rattle.row_forms.specs.believed.Tables.{is_single, pieces, row_text, rows_text}
use Rattle.suite_forms.specs.Pieces.{cell_piece}
use Rattle.suite_forms.specs.believed.Suites.{param_names, spelled, spelled_row, spelled_rows}
use Rattle.suite_forms.proofs.Making.{at_param, count_of_params}

-- a place behind another is not the first
not-first : (at : ℕ) → (at + 1 == 0) ≡ false
not-first at = ne_eqb (at + 1) 0 (λ e. absurd (omega (arith, e)))

-- a piece is added, and the others are left
pub more-added : (before bytes rest left whole : List ℕ) → left ≡ bytes ++ rest → before ++ left ≡ whole → (before ++ bytes) ++ rest ≡ whole
more-added before bytes rest left whole cut so_far = append_assoc before bytes rest ∙ ap (λ t. before ++ t) (sym cut) ∙ so_far

-- ---- cells

cells-cut : (form : RowForm) (only : Bool) (names : List (List ℕ)) (cells : List (Option (List ℕ))) (place : ℕ) → place < length names → place < length cells
    → pieces form (place == 0) only (drop place names) (drop place cells)
    ≡ piece form (place == 0) only (get_or names place []) (get_or cells place None) ++ pieces form (place + 1 == 0) only (drop (place + 1) names) (drop (place + 1) cells)
cells-cut form only names cells place named given =
    ap₂ (λ (ns : List (List ℕ)) (cs : List (Option (List ℕ))). pieces form (place == 0) only ns cs) (drop_more names place [] named) (drop_more cells place None given)
    ∙ ap (λ (first : Bool). piece form (place == 0) only (get_or names place []) (get_or cells place None) ++ pieces form first only (drop (place + 1) names) (drop (place + 1) cells))
    (sym (not-first place))

names-count : (m : ModelView) → length (param_names m) ≡ length m.params
names-count m = length-map m.params (λ param. param.name)

-- a cell of a row is added
pub cell-added : (form : RowForm) (m : ModelView) (earlier : List (List (Option ℕ))) (row : List (Option ℕ)) (place : ℕ) (before bytes after whole : List ℕ) → place < length m.params
    → bytes ≡ cell_piece form m place (spelled m earlier row place) → after ≡ before ++ bytes
    → before ++ pieces form (place == 0) (is_single (param_names m)) (drop place (param_names m)) (drop place (spelled_row m earlier row)) ≡ whole
    → after ++ pieces form (place + 1 == 0) (is_single (param_names m)) (drop (place + 1) (param_names m)) (drop (place + 1) (spelled_row m earlier row)) ≡ whole
cell-added form m earlier row place before bytes after whole inside is added so_far =
    let names = param_names m in
    let cells = spelled_row m earlier row in
    let only = is_single names in
    let name : get_or names place [] ≡ (param_at m.params place).name = get_or-map (λ (param : Param). param.name) m.params place no_param [] inside in
    let cell : get_or cells place None ≡ spelled m earlier row place = at_param (spelled m earlier row) m place None inside in
    let rest = pieces form (place + 1 == 0) only (drop (place + 1) names) (drop (place + 1) cells) in
    let cut = cells-cut form only names cells place (omega (arith, inside, names-count m)) (omega (arith, inside, count_of_params (spelled m earlier row) m)) in
    ap (λ t. t ++ rest) added
    ∙ more-added before bytes rest (pieces form (place == 0) only (drop place names) (drop place cells)) whole
    (cut ∙ ap (λ t. t ++ rest) (ap₂ (piece form (place == 0) only) name cell ∙ sym is)) so_far

-- all cells are added
pub cells-added : (form : RowForm) (m : ModelView) (earlier : List (List (Option ℕ))) (row : List (Option ℕ)) (place : ℕ) (before whole : List ℕ) → length m.params ≤ place
    → before ++ pieces form (place == 0) (is_single (param_names m)) (drop place (param_names m)) (drop place (spelled_row m earlier row)) ≡ whole → before ≡ whole
cells-added form m earlier row place before whole past so_far =
    let names = param_names m in
    let cells = drop place (spelled_row m earlier row) in
    let none : pieces form (place == 0) (is_single names) (drop place names) cells ≡ [] = ap (λ ns. pieces form (place == 0) (is_single names) ns cells) (drop_all place names (omega (arith, past, names-count m))) in
    sym (append-nil before) ∙ ap (λ t. before ++ t) (sym none) ∙ so_far

-- ---- rows

rows-cut : (form : RowForm) (m : ModelView) (rows : List (List (Option ℕ))) (at : ℕ) → at < length rows
    → rows_text form (param_names m) (at == 0) (spelled_rows m (take at rows) (drop at rows))
    ≡ row_text form (param_names m) (at == 0) (spelled_row m (take at rows) (get_or rows at []))
    ++ rows_text form (param_names m) (at + 1 == 0) (spelled_rows m (take (at + 1) rows) (drop (at + 1) rows))
rows-cut form m rows at inside =
    let names = param_names m in
    let first = row_text form names (at == 0) (spelled_row m (take at rows) (get_or rows at [])) in
    ap (λ (rs : List (List (Option ℕ))). rows_text form names (at == 0) (spelled_rows m (take at rows) rs)) (drop_more rows at [] inside)
    ∙ ap (λ (earlier : List (List (Option ℕ))). first ++ rows_text form names false (spelled_rows m earlier (drop (at + 1) rows))) (sym (take_more rows at [] inside))
    ∙ ap (λ (b : Bool). first ++ rows_text form names b (spelled_rows m (take (at + 1) rows) (drop (at + 1) rows))) (sym (not-first at))

-- a row is added
pub row-added : (form : RowForm) (m : ModelView) (rows : List (List (Option ℕ))) (at : ℕ) (before after whole : List ℕ) → at < length rows
    → after ≡ before ++ row_text form (param_names m) (at == 0) (spelled_row m (take at rows) (get_or rows at []))
    → before ++ rows_text form (param_names m) (at == 0) (spelled_rows m (take at rows) (drop at rows)) ≡ whole
    → after ++ rows_text form (param_names m) (at + 1 == 0) (spelled_rows m (take (at + 1) rows) (drop (at + 1) rows)) ≡ whole
row-added form m rows at before after whole inside is so_far =
    let rest = rows_text form (param_names m) (at + 1 == 0) (spelled_rows m (take (at + 1) rows) (drop (at + 1) rows)) in
    ap (λ t. t ++ rest) is
    ∙ more-added before (row_text form (param_names m) (at == 0) (spelled_row m (take at rows) (get_or rows at []))) rest
    (rows_text form (param_names m) (at == 0) (spelled_rows m (take at rows) (drop at rows))) whole (rows-cut form m rows at inside) so_far

-- all rows are added
pub rows-added : (form : RowForm) (m : ModelView) (rows : List (List (Option ℕ))) (at : ℕ) (before whole : List ℕ) → length rows ≤ at
    → before ++ rows_text form (param_names m) (at == 0) (spelled_rows m (take at rows) (drop at rows)) ≡ whole → before ≡ whole
rows-added form m rows at before whole past so_far =
    let none : rows_text form (param_names m) (at == 0) (spelled_rows m (take at rows) (drop at rows)) ≡ [] =
    ap (λ (rs : List (List (Option ℕ))). rows_text form (param_names m) (at == 0) (spelled_rows m (take at rows) rs)) (drop_all at rows past) in
    sym (append-nil before) ∙ ap (λ t. before ++ t) (sym none) ∙ so_far

-- ---- a table

each-long : (m : ModelView) (earlier rows : List (List (Option ℕ))) → AllByRecursion (λ row. length row ≡ length (param_names m)) (spelled_rows m earlier rows)
each-long m earlier [] = tt
each-long m earlier (row ∷ rows) = (count_of_params (spelled m earlier row) m ∙ sym (names-count m), each-long m (earlier ++ row ∷ []) rows)

-- the cells of a suite are a table
pub suite-IsTable : (m : ModelView) (rows : List (List (Option ℕ))) → 0 < length m.params → IsTable (param_names m) (spelled_rows m [] rows)
suite-IsTable m rows some =
    (omega (arith, some, names-count m), All-from_recursion (λ row. length row ≡ length (param_names m)) (spelled_rows m [] rows) (each-long m [] rows))
