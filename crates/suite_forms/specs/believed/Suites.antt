-- The text of a suite in a form of tables: a column for each parameter, a row for each test, and in each cell a name of
-- the value. The names of a value take turns, as in a report. (That they do is PICT's guide's.)
use Rattle.std.specs.Prelude.{ℕ, List, [], ◌∷◌, ◌++◌, map, Option, Some, None, if◌then◌else◌}
use Rattle.cov_model.specs.believed.Sound.{ModelView}
use Rattle.cov_model.specs.believed.Rows.{is_assigned}
use Rattle.cov_model.specs.believed.Valid.{param_numbers}
use Rattle.definitions.specs.believed.Report.{cell_text}
use Rattle.row_forms.specs.declared.row_form.RowForm.{RowForm}
use Rattle.row_forms.specs.believed.Tables.{table_text}

-- the names of the columns
abbrev pub param_names : ModelView → List (List ℕ)
param_names m = map (λ param. param.name) m.params

-- the cell of a parameter in a row that stands behind the earlier rows: none where the row gives it no value
abbrev pub spelled : ModelView → List (List (Option ℕ)) → List (Option ℕ) → ℕ → Option (List ℕ)
spelled m earlier row p = if is_assigned row p then Some (cell_text m earlier row p) else None

abbrev pub spelled_row : ModelView → List (List (Option ℕ)) → List (Option ℕ) → List (Option (List ℕ))
spelled_row m earlier row = map (spelled m earlier row) (param_numbers m)

-- the cells of rows that stand behind the earlier ones
abbrev pub spelled_rows : ModelView → List (List (Option ℕ)) → List (List (Option ℕ)) → List (List (Option (List ℕ)))
spelled_rows m earlier [] = []
spelled_rows m earlier (row ∷ rows) = spelled_row m earlier row ∷ spelled_rows m (earlier ++ row ∷ []) rows

-- the text of a suite
abbrev pub suite_text : RowForm → ModelView → List (List (Option ℕ)) → List ℕ
suite_text form m rows = table_text form (param_names m) (spelled_rows m [] rows)
