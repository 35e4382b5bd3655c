-- The rows of a suite by their kinds. (NIST IR 7878.)
use Rattle.std.specs.Prelude.{ℕ, ◌+◌, ◌&&◌, not, List, length, Option, if◌then◌else◌}
use Rattle.std.specs.List.{filter}
use Rattle.cov_model.specs.believed.Sound.{ModelView}
use Rattle.cov_model.specs.believed.Rows.{is_complete}
use Rattle.cov_model.specs.believed.Valid.{is_valid}
use Rattle.definitions.specs.believed.Figures.{tests_of}
use Rattle.coverage_measure.specs.declared.suite_rows.RowCounts.{RowCounts}
use Rattle.coverage_measure.specs.declared.suite_rows.RowKind.{RowKind}
use Rattle.coverage_measure.specs.declared.suite_rows.RowKind.TheVariants.{Test, Incomplete, Invalid}

-- what a row is
abbrev pub kind_of : ModelView → List (Option ℕ) → RowKind
kind_of m row = if is_complete row then (if is_valid m row then Test else Invalid) else Incomplete

-- how many rows are of each kind
abbrev pub row_counts : ModelView → List (List (Option ℕ)) → RowCounts
row_counts m rows = record {
  tests = length (tests_of m rows);
  incomplete = length (filter (λ row. not (is_complete row)) rows);
  invalid = length (filter (λ row. is_complete row && not (is_valid m row)) rows);
}

-- with one more of a kind
abbrev pub with_kind : RowKind → RowCounts → RowCounts
with_kind Test counts = record { tests = counts.tests + 1; incomplete = counts.incomplete; invalid = counts.invalid }
with_kind Incomplete counts = record { tests = counts.tests; incomplete = counts.incomplete + 1; invalid = counts.invalid }
with_kind Invalid counts = record { tests = counts.tests; incomplete = counts.incomplete; invalid = counts.invalid + 1 }
