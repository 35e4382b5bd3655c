-- The tab-separated text of complete rows is their report.
use Rattle.std.proofs.Common.{◌≡◌, ℕ, Bool, true, false, List, [], ◌∷◌, ◌++◌, length, map, refl, sym, ap, ap₂, ◌∙◌, arith}
use Rattle.std.specs.Prelude.{Option}
use Rattle.std.specs.List.{AllByRecursion, join_with_byte, list_all}
use Rattle.std.proofs.lemmas.Bool.{and_parts}
use Rattle.std.proofs.lemmas.List.{append-nil, length-map}
use Rattle.std.proofs.lemmas.List.Elements.{recursion_from_All}
use Rattle.cov_model.specs.believed.Sound.{ModelView}
use Rattle.cov_model.specs.believed.Rows.{is_assigned}
use Rattle.cov_model.specs.believed.Valid.{has_value, is_row, param_numbers}
use Rattle.definitions.specs.believed.Report.{cell_text, row_line, row_lines}
use Rattle.row_forms.specs.declared.row_form.RowForm.TheVariants.{Tsv}
use Rattle.row_forms.specs.believed.Forms.{parting, text_of}
use Rattle.row_forms.specs.believed.Tables.{is_single, name_pieces, pieces, row_text, rows_text}
use Rattle.suite_forms.specs.Laws.{TsvIsReport}
use Rattle.suite_forms.specs.believed.Suites.{param_names, spelled, spelled_row, spelled_rows}
use Rattle.suite_forms.proofs.Making.{count_of_params}

-- cells behind the first one, each behind its tab
behind-tabs : (only : Bool) (name : List ℕ) (names : List (List ℕ)) → name ++ name_pieces Tsv false only names ≡ join_with_byte 9 (name ∷ names)
behind-tabs only name [] = append-nil name
behind-tabs only name (other ∷ names) = ap (λ (rest : List ℕ). name ++ 9 ∷ rest) (behind-tabs only other names)

tabbed : (only : Bool) (names : List (List ℕ)) → name_pieces Tsv true only names ≡ join_with_byte 9 names
tabbed only [] = refl
tabbed only (name ∷ names) = behind-tabs only name names

-- the pieces of cells are those of names that are their texts
cells-tabbed : (first only : Bool) (names : List (List ℕ)) (cells : List (Option (List ℕ))) → length cells ≡ length names
    → pieces Tsv first only names cells ≡ name_pieces Tsv first only (map text_of cells)
cells-tabbed first only [] [] same = refl
cells-tabbed first only [] (cell ∷ cells) same = absurd (omega (arith, same))
cells-tabbed first only (name ∷ names) [] same = absurd (omega (arith, same))
cells-tabbed first only (name ∷ names) (cell ∷ cells) same =
    ap (λ (rest : List ℕ). (parting first 9 ++ text_of cell) ++ rest) (cells-tabbed false only names cells (omega (arith, same)))

-- the texts of a complete row's cells
texts : (m : ModelView) (earlier : List (List (Option ℕ))) (row : List (Option ℕ)) (ps : List ℕ) → list_all (has_value m row) ps ≡ true
    → map text_of (map (spelled m earlier row) ps) ≡ map (cell_text m earlier row) ps
texts m earlier row [] has = refl
texts m earlier row (p ∷ ps) has =
    let here = and_parts (has_value m row p) (list_all (has_value m row) ps) has in
    let assigned : is_assigned row p ≡ true = (and_parts (is_assigned row p) _ here.0).0 in
    ap₂ (λ (x : List ℕ) (xs : List (List ℕ)). x ∷ xs) (spelled-text assigned) (texts m earlier row ps here.1)
  where
    spelled-text : is_assigned row p ≡ true → text_of (spelled m earlier row p) ≡ cell_text m earlier row p
    spelled-text assigned = rw assigned refl

line : (m : ModelView) (earlier : List (List (Option ℕ))) (row : List (Option ℕ)) (first : Bool) → is_row m row ≡ true
    → row_text Tsv (param_names m) first (spelled_row m earlier row) ≡ row_line m earlier row
line m earlier row first complete =
    let names = param_names m in
    let cells = spelled_row m earlier row in
    let long : length cells ≡ length names = count_of_params (spelled m earlier row) m ∙ sym (length-map m.params (λ param. param.name)) in
    let has : list_all (has_value m row) (param_numbers m) ≡ true = (and_parts _ (list_all (has_value m row) (param_numbers m)) complete).1 in
    ap (λ (t : List ℕ). t ++ 10 ∷ [])
    (cells-tabbed true (is_single names) names cells long ∙ tabbed (is_single names) (map text_of cells) ∙ ap (join_with_byte 9) (texts m earlier row (param_numbers m) has))

lines : (m : ModelView) (earlier rows : List (List (Option ℕ))) (first : Bool) → AllByRecursion (λ row. is_row m row ≡ true) rows
    → rows_text Tsv (param_names m) first (spelled_rows m earlier rows) ≡ row_lines m earlier rows
lines m earlier [] first complete = refl
lines m earlier (row ∷ rows) first complete =
    ap₂ (λ (a b : List ℕ). a ++ b) (line m earlier row first complete.0) (lines m (earlier ++ row ∷ []) rows false complete.1)

pub tsv-is-report : TsvIsReport
tsv-is-report m rows complete =
    ap₂ (λ (a b : List ℕ). (a ++ 10 ∷ []) ++ b) (tabbed (is_single (param_names m)) (param_names m))
    (append-nil (rows_text Tsv (param_names m) true (spelled_rows m [] rows)) ∙ lines m [] rows true (recursion_from_All (λ row. is_row m row ≡ true) rows complete))
