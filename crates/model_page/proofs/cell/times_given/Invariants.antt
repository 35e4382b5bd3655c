use Rattle.std.proofs.Common.{◌≡◌, ◌≤◌, ◌&&◌, ◌==◌, take}
use Rattle.std.specs.Prelude.{count_by}
use Rattle.cov_model.specs.believed.Rows.{is_assigned, value_in}
use Rattle.model_page.proofs.cell.times_given.Given as goal

abbrev pub invariant-loop-row : goal.invariant-loop-row
invariant-loop-row l =
    (l.times ≤ l.row-index)
    × (l.times ≡ count_by (λ row. is_assigned row.cells l.place && (value_in row.cells l.place == l.value)) (take l.row-index l.rows))
