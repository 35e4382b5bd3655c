-- The cell of a parameter, where a row gives it a value and where it gives it none.
use Rattle.std.proofs.Common.{◌≡◌, ℕ, ◌<◌, ◌&&◌, ◌==◌, cond, List, [], length, get_or, map, take, sym, ap, ◌∙◌}
use Rattle.std.specs.Prelude.{Option, Some, None, count_by, is_some, unwrap_or}
use Rattle.std.proofs.lemmas.List.{get_or-map, take-map}
use Rattle.cov_model.specs.believed.Meaning.{value_at}
use Rattle.cov_model.specs.believed.Rows.{is_assigned, value_in}
use Rattle.cov_model.specs.believed.Sound.{ModelView}
use Rattle.cov_model.specs.declared.parameter.Value.{Value}
use Rattle.definitions.specs.believed.Report.{printed_turn, times_given}
use Rattle.row_text.specs.declared.row_file.FileRow.{FileRow}
use Rattle.suite_page.specs.believed.TestsTable.{Cell, no_cell}
use Rattle.model_page.specs.believed.Tests.{cell_of}
use Rattle.value_text.proofs.ListLemmas.{count_map}

-- the cell of a value that was shown so many times
abbrev pub shown : ModelView → Value → ℕ → Cell
shown m value times = record { text = printed_turn m value times; is_invalid = value.negative }

abbrev cell_by : (m : ModelView) (earlier : List (List (Option ℕ))) (p : ℕ) → Option ℕ → Cell
cell_by m earlier p cell = cond (is_some cell) (shown m (value_at m p (unwrap_or cell 0)) (times_given earlier p (unwrap_or cell 0))) no_cell

-- of a row of a file
module _ (rows : List FileRow) (at : ℕ) (row : FileRow) (inside : at < length rows) (is : row ≡ get_or rows at row) where
  row_is : get_or (map (λ (one : FileRow). one.cells) rows) at [] ≡ row.cells
  row_is = get_or-map (λ (one : FileRow). one.cells) rows at row [] inside ∙ ap (λ (one : FileRow). one.cells) (sym is)

  pub cell_given : (m : ModelView) (p v times : ℕ) → Some v ≡ get_or row.cells p None
      → times ≡ count_by (λ (one : FileRow). is_assigned one.cells p && (value_in one.cells p == v)) (take at rows)
      → cell_of m (take at (map (λ (one : FileRow). one.cells) rows)) (get_or (map (λ (one : FileRow). one.cells) rows) at []) p ≡ shown m (value_at m p v) times
  cell_given m p v times gives counted =
      let suite = map (λ (one : FileRow). one.cells) rows in
      ap (λ (cells : List (Option ℕ)). cell_of m (take at suite) cells p) row_is
      ∙ ap (cell_by m (take at suite) p) (sym gives)
      ∙ ap (shown m (value_at m p v))
      (ap (λ (list : List (List (Option ℕ))). times_given list p v) (take-map (λ (one : FileRow). one.cells) at rows)
      ∙ count_map (λ (cells : List (Option ℕ)). is_assigned cells p && (value_in cells p == v)) (λ (one : FileRow). one.cells) (take at rows) ∙ sym counted)

  pub cell_absent : (m : ModelView) (p : ℕ) → None ≡ get_or row.cells p None
      → cell_of m (take at (map (λ (one : FileRow). one.cells) rows)) (get_or (map (λ (one : FileRow). one.cells) rows) at []) p ≡ no_cell
  cell_absent m p gives =
      let suite = map (λ (one : FileRow). one.cells) rows in
      ap (λ (cells : List (Option ℕ)). cell_of m (take at suite) cells p) row_is ∙ ap (cell_by m (take at suite) p) (sym gives)
