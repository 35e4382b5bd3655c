-- What a table of results says, once its rows and its words are read.
use Rattle.std.proofs.Common.{◌≡◌, ℕ, ◌∷◌, List, [], map, Option, None, Some, Ok, Err, inl, inr, ap, ap₂, refl, sym, ◌∙◌}
use Rattle.std.specs.Prelude.{◌⊎◌, Bool, IfSome}
use Rattle.std.proofs.lemmas.Simd.{map-map}
use Rattle.cov_model.specs.believed.Sound.{ModelView}
use Rattle.definitions.specs.believed.RowFile.{cells_of_line, filled_lines, row_of_line}
use Rattle.definitions.specs.believed.RowReading as defined
use Rattle.definitions.specs.believed.RowReading.{RowReading, Suite, read_rows}
use Rattle.row_text.specs.Readings.{fault_of}
use Rattle.row_text.specs.RowFiles.{row_seen}
use Rattle.row_text.specs.declared.row_file.FileRow.{FileRow}
use Rattle.row_text.specs.declared.rows_fault.RowsFault.{RowsFault}
use Rattle.row_text.specs.declared.rows_fault.RowsFault.TheVariants as rows
use Rattle.row_text.proofs.SeenRows.{suite_rows}
use Rattle.suspect_tuples.proofs.ResultSteps.{read_under_header}
use Rattle.suspect_tuples.specs.Results.{refused_as}
use Rattle.suspect_tuples.specs.declared.result_file.ResultFile.{ResultFile}
use Rattle.command_line.specs.declared.stop.Stop.{Stop}
use Rattle.command_line.specs.declared.stop.Stop.TheVariants.{NoResult, OutOfMemory}
use Rattle.jeldroft_files.specs.believed.Failures.{status_of}
use Rattle.jeldroft_files.specs.declared.failure.Cause.TheVariants as causes
use Rattle.jeldroft_inputs.specs.Inputs.{EndsBy}
use Rattle.jeldroft_inputs.specs.believed.Inputs.{and_then, rows_or_cause, unless}
use Rattle.jeldroft_suspect.specs.Due.{stop_of_fault}
use Rattle.jeldroft_suspect.specs.Results.{failures, results_seen, that_ran}
use Rattle.jeldroft_suspect.specs.believed.Results.{has_failed, lines_that_ran, outcome_in, result_column, results_beside, results_in, results_numbered, results_under, wordless}
use Rattle.jeldroft_suspect.specs.declared.outcome.Outcome.{Outcome}
use Rattle.jeldroft_suspect.proofs.RanLemmas.{lines_failed, lines_ran, map_ran}

module _ (m : ModelView) (name bytes : List ℕ) where
  -- its rows are refused
  by_rows : (given : defined.RowsFault) → read_rows m Suite bytes ≡ Err given → results_in m name bytes ≡ and_then (rows_or_cause (Err given)) (λ reading. results_numbered m name (filled_lines bytes))
  by_rows given read = ap (λ rows. and_then (rows_or_cause rows) (λ reading. results_numbered m name (filled_lines bytes))) read

  pub rows_refused : (fault : RowsFault) → IfSome (fault_of fault) (λ given. read_rows m Suite bytes ≡ Err given)
      → EndsBy (λ cause. results_in m name bytes ≡ Err cause) (causes.Stop (stop_of_fault (refused_as fault)))
  rows_refused rows.NoMemory read = inl refl
  rows_refused rows.NoHeader read = inr (by_rows defined.NoHeader read)
  rows_refused (rows.Twice line) read = inr (by_rows (defined.Twice line) read)
  rows_refused (rows.Missing p) read = inr (by_rows (defined.Missing p) read)
  rows_refused (rows.TooManyRows count) read = inr (by_rows (defined.TooManyRows count) read)
  rows_refused (rows.Width line) read = inr (by_rows (defined.Width line) read)

  -- its rows are read
  module _ (reading : RowReading) (read : read_rows m Suite bytes ≡ Ok reading) where
    numbered : results_in m name bytes ≡ results_numbered m name (filled_lines bytes)
    numbered = ap (λ rows. and_then (rows_or_cause rows) (λ reading. results_numbered m name (filled_lines bytes))) read

    -- it has no line
    pub without_lines : filled_lines bytes ≡ [] → results_in m name bytes ≡ Err (causes.Stop NoResult)
    without_lines none = numbered ∙ ap (results_numbered m name) none

    module _ (first : ℕ × List ℕ) (lines : List (ℕ × List ℕ)) (opened : filled_lines bytes ≡ first ∷ lines) where
      under : (column : Option ℕ) → result_column m name (cells_of_line first.1) ≡ column → results_in m name bytes ≡ results_under m (cells_of_line first.1) lines column
      under column is = numbered ∙ ap (results_numbered m name) opened ∙ ap (results_under m (cells_of_line first.1) lines) is

      -- no column has the name
      pub without_column : result_column m name (cells_of_line first.1) ≡ None → results_in m name bytes ≡ Err (causes.Stop NoResult)
      without_column is = under None is

      module _ (column : ℕ) (found : result_column m name (cells_of_line first.1) ≡ Some column) where
        -- a line has no word for a result
        pub without_word : (stop : Stop) → (stop ≡ OutOfMemory) ⊎ (wordless column lines ≡ Some stop) → EndsBy (λ cause. results_in m name bytes ≡ Err cause) (causes.Stop stop)
        without_word stop ends = elim ends [
          | inl memory ↦ inl (ap (λ stop. status_of (causes.Stop stop)) memory)
          | inr is ↦ inr (under (Some column) found ∙ ap (λ stop. unless stop (Ok (results_beside m (cells_of_line first.1) column lines))) is)
        ]

        -- each has one
        rows_given : (file : List FileRow) → map row_seen file ≡ reading.rows → map (λ row. row.cells) file ≡ map (λ line. row_of_line m (cells_of_line first.1) line.1) lines
        rows_given file held =
            sym (suite_rows file)
            ∙ ap (map (λ (row : ℕ × List (Option ℕ)). row.1)) (held ∙ ap (λ (reading : RowReading). reading.rows) (sym (read_under_header m bytes first lines reading opened read)))
            ∙ map-map (λ (row : ℕ × List (Option ℕ)). row.1) (λ (line : ℕ × List ℕ). (line.0, row_of_line m (cells_of_line first.1) line.1)) lines

        pub with_words : (file : List FileRow) (outcomes : List Outcome) (results : ResultFile) → map row_seen file ≡ reading.rows → outcomes ≡ map (outcome_in column) lines
            → wordless column lines ≡ None → results.rows.rows ≡ that_ran file outcomes → results.failed ≡ failures outcomes → results_in m name bytes ≡ Ok (results_seen results)
        with_words file outcomes results held are good kept failed =
            let tests : map (λ (row : FileRow). row.cells) results.rows.rows ≡ map (λ (line : ℕ × List ℕ). row_of_line m (cells_of_line first.1) line.1) (lines_that_ran column lines) =
            ap (map (λ (row : FileRow). row.cells)) kept ∙ map_ran (λ (row : FileRow). row.cells) file outcomes
            ∙ ap₂ that_ran (rows_given file held) are ∙ lines_ran (λ (line : ℕ × List ℕ). row_of_line m (cells_of_line first.1) line.1) (outcome_in column) lines in
            let flags : results.failed ≡ map (λ line. has_failed (outcome_in column line)) (lines_that_ran column lines) =
            failed ∙ ap failures are ∙ lines_failed (outcome_in column) lines in
            under (Some column) found ∙ ap (λ stop. unless stop (Ok (results_beside m (cells_of_line first.1) column lines))) good
            ∙ ap₂ (λ (tests : List (List (Option ℕ))) (failed : List Bool). Ok (record { tests = tests; failed = failed })) (sym tests) (sym flags)
