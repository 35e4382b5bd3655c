-- What a run that looks for suspicious tuples finds in a file of results.
use Rattle.std.proofs.Common.{◌≡◌, ℕ, ◌<◌, ◌≤◌, List, map, length, Option, None, Some, Ok, Err, inl, inr, refl, sym, ap, subst, ◌∙◌}
use Rattle.std.specs.Prelude.{if◌then◌else◌, option_map, IfSome}
use Rattle.std.proofs.lemmas.Bool.{le-ltb, lt-ltb}
use Rattle.std.proofs.lemmas.List.{append-nil}
use Rattle.cov_model.specs.believed.Sound.{ModelView}
use Rattle.outside_io.specs.believed.Files.{Files}
use Rattle.definitions.specs.believed.Settings.{Settings}
use Rattle.model_lex.specs.declared.note.Note.{Note}
use Rattle.definitions.specs.believed.Limits as limits
use Rattle.definitions.specs.believed.Limits.{RowFile, most_bytes, most_counted}
use Rattle.row_text.specs.RowFiles.{suite_seen}
use Rattle.row_text.specs.declared.rows_fault.RowsFault.TheVariants as rows_faults
use Rattle.row_text.proofs.SeenRows.{suite_rows}
use Rattle.suspect_tuples.specs.believed.ResultReading.{ResultReading, read_results}
use Rattle.suspect_tuples.specs.Results.{HoldsResults, result_fault_of}
use Rattle.suspect_tuples.specs.believed.Suspects as found
use Rattle.suspect_tuples.specs.believed.Suspects.{candidate_count, failing_rows}
use Rattle.suspect_tuples.specs.Told.{candidates_of, suspects_of}
use Rattle.suspect_tuples.specs.declared.result_file.ResultFile.{ResultFile}
use Rattle.suspect_tuples.specs.declared.results_fault.ResultsFault.{ResultsFault}
use Rattle.suspect_tuples.specs.declared.results_fault.ResultsFault.TheVariants as faults
use Rattle.tuple_index.specs.believed.PlanFault.{limit_passed, saturated}
use Rattle.command_line.specs.believed.Stops.{stop_of_plan}
use Rattle.command_line.specs.declared.stop.Stop.{Stop}
use Rattle.command_line.specs.declared.stop.Stop.TheVariants.{TooLong, TooMany}
use Rattle.command_line.specs.declared.files.FileKind.TheVariants as kinds
use Rattle.command_line.specs.declared.stop.Quantity.TheVariants.{SuspectCandidates}
use Rattle.pict_cli.specs.believed.Modes.{RowSource, RowsHeld, Suspect, makes_plan, mode_of, row_file_in, row_source, rows_beside, source_in}
use Rattle.pict_cli.specs.believed.RowSources.{or_result_stop, read_result_bytes, read_source}
use Rattle.pict_cli.specs.believed.Runs.{candidates_stop, limit_due, suite_in}
use Rattle.pict_cli.specs.Steps.{HoldsResultsOf, IsDueOrNoMemory, StopsRows, StopsWork, is_due, is_refused, no_memory, no_room, stop_of_results_fault}
use Rattle.pict_cli.proofs.RowFiles.{source_held}

-- what was read
module _ (m : ModelView) (file : ResultFile) (reading : ResultReading) (holds : HoldsResults file reading) where
  same_suite : suite_seen file.rows ≡ suite_in reading
  same_suite = sym (suite_rows file.rows.rows) ∙ ap (map (λ row. row.1)) holds.rows.rows

  pub same_suspects : suspects_of m file ≡ found.suspects m (suite_in reading) reading.failed
  same_suspects = ap (λ rows. found.suspects m rows file.failed) same_suite ∙ ap (found.suspects m (suite_in reading)) holds.failed

  pub same_candidates : candidates_of m file ≡ candidate_count m (failing_rows (suite_in reading) reading.failed)
  same_candidates =
      ap (λ rows. candidate_count m (failing_rows rows file.failed)) same_suite ∙ ap (λ failed. candidate_count m (failing_rows (suite_in reading) failed)) holds.failed

-- there are too many candidates, or not
pub too_many : (count n : ℕ) → most_counted limits.SuspectCandidates < count → n ≡ saturated count → candidates_stop count ≡ Some (TooMany SuspectCandidates n)
too_many count n above is =
    ap (λ b. if b then Some (TooMany SuspectCandidates (saturated count)) else None) (lt-ltb (most_counted limits.SuspectCandidates) count above)
    ∙ ap (λ k. Some (TooMany SuspectCandidates k)) (sym is)

pub not_many : (count : ℕ) → count ≤ most_counted limits.SuspectCandidates → candidates_stop count ≡ None
not_many count few = ap (λ b. if b then Some (TooMany SuspectCandidates (saturated count)) else None) (le-ltb (most_counted limits.SuspectCandidates) count few)

-- the work stops as it is due
pub work_due : (due : Option Stop) (later notes : List Note) (stop : Stop) → IsDueOrNoMemory due stop → StopsWork due later notes notes stop
work_due due later notes stop (inl is) = no_memory 0 is (sym (append-nil notes))
work_due due later notes stop (inr is) = is_due is refl

-- the file is refused
read_within : (m : ModelView) (bytes : List ℕ) → length bytes ≤ most_bytes RowFile → read_source (read_result_bytes m) (RowsHeld (Some bytes)) ≡ read_result_bytes m bytes
read_within m bytes short =
    ap (λ b. if b then Err (TooLong kinds.Rows) else read_result_bytes m bytes) (le-ltb (most_bytes RowFile) (length bytes) short)

pub results_refused : (m : ModelView) (bytes : List ℕ) (fault : ResultsFault) → length bytes ≤ most_bytes RowFile
    → IfSome (result_fault_of fault) (λ given. read_results m bytes ≡ Err given) → StopsRows (read_result_bytes m) (RowsHeld (Some bytes)) (stop_of_results_fault fault)
results_refused m bytes faults.NoMemory short is = no_room refl
results_refused m bytes faults.NoResult short is = is_refused (read_within m bytes short ∙ ap or_result_stop is)
results_refused m bytes (faults.BadResult line) short is = is_refused (read_within m bytes short ∙ ap or_result_stop is)
results_refused m bytes (faults.Rows rows_faults.NoMemory) short is = no_room refl
results_refused m bytes (faults.Rows rows_faults.NoHeader) short is = is_refused (read_within m bytes short ∙ ap or_result_stop is)
results_refused m bytes (faults.Rows (rows_faults.Twice line)) short is = is_refused (read_within m bytes short ∙ ap or_result_stop is)
results_refused m bytes (faults.Rows (rows_faults.Missing p)) short is = is_refused (read_within m bytes short ∙ ap or_result_stop is)
results_refused m bytes (faults.Rows (rows_faults.TooManyRows count)) short is = is_refused (read_within m bytes short ∙ ap or_result_stop is)
results_refused m bytes (faults.Rows (rows_faults.Width line)) short is = is_refused (read_within m bytes short ∙ ap or_result_stop is)

pub results_read : (m : ModelView) (bytes : List ℕ) (file : ResultFile) → length bytes ≤ most_bytes RowFile
    → (read : ResultReading) → read_results m bytes ≡ Ok read → HoldsResults file read
    → HoldsResultsOf m (RowsHeld (Some bytes)) file
results_read m bytes file short read is holds = record { reading = read; read = read_within m bytes short ∙ ap or_result_stop is; holds = holds }

-- the run goes by no plan, and its row file is the one of this name
pub no_limit : (s : Settings) (m : ModelView) (name : List ℕ) → mode_of s ≡ Suspect name → limit_due s m ≡ None
no_limit s m name is = ap (λ mode. if makes_plan mode then option_map stop_of_plan (limit_passed m) else None) is

pub named_source : (s : Settings) (name : List ℕ) (files : Files) (source : RowSource) (P : RowSource → Type 0) → mode_of s ≡ Suspect name → row_source s files ≡ Some source
    → ((held : Option (List ℕ)) → files name ≡ Some held → P (RowsHeld held)) → P source
named_source s name files source P is told holds =
    source_held (files name) source P (subst (λ mode. source_in (row_file_in mode (rows_beside s.make s.seeds)) files ≡ Some source) is told) holds
