-- The tests of a page: a row for each, with a cell for each parameter, spelled as in a report. (PICT's guide.)
use Rattle.std.specs.Prelude.{ℕ, ◌+◌, List, [], map, take, Option, slice_index_or, if◌then◌else◌}
use Rattle.cov_model.specs.believed.Meaning.{value_at}
use Rattle.cov_model.specs.believed.Rows.{is_assigned, value_in}
use Rattle.cov_model.specs.believed.Sound.{ModelView}
use Rattle.cov_model.specs.believed.Valid.{param_numbers}
use Rattle.definitions.specs.believed.Report.{cell_text}
use Rattle.suite_page.specs.believed.TestsTable.{Cell, Test, no_cell}

abbrev pub param_names : ModelView → List (List ℕ)
param_names m = map (λ param. param.name) m.params

-- the cell of a parameter in a row that stands behind the earlier rows: empty where the row gives it no value
abbrev pub cell_of : ModelView → List (List (Option ℕ)) → List (Option ℕ) → ℕ → Cell
cell_of m earlier row p =
    if is_assigned row p
    then record { text = cell_text m earlier row p; is_invalid = (value_at m p (value_in row p)).negative }
    else no_cell

-- the row at a place, with its number from 1
abbrev pub test_of : ModelView → List (List (Option ℕ)) → ℕ → Test
test_of m rows at = record { number = at + 1; cells = map (cell_of m (take at rows) (slice_index_or rows at [])) (param_numbers m) }
