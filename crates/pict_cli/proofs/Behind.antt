-- Why a run on a model ends, from why its steps did.
use Rattle.std.proofs.Common.{◌≡◌, ℕ, ◌+◌, List, [], ◌++◌, length, take, Option, None, Some, Ok, Err, Result, inl, inr, refl, sym, ap, subst, ◌∙◌}
use Rattle.std.specs.Prelude.{◌≢◌, ◌⊎◌, true, if◌then◌else◌, option_map, IfErr, IsErrAnd, IsSomeAnd}
use Rattle.std.specs.Option.{option_or}
use Rattle.std.proofs.lemmas.Bool.{false≢true}
use Rattle.std.proofs.Math.Seq.{take-append-add}
use Rattle.definitions.specs.believed.RowReading.{RowReading}
use Rattle.suspect_tuples.specs.believed.ResultReading.{ResultReading}
use Rattle.cov_model.specs.believed.Sound.{ModelView}
use Rattle.definitions.specs.declared.effort.Effort.{Effort}
use Rattle.definitions.specs.believed.Settings.{Settings}
use Rattle.model_lex.specs.declared.note.Note.{Note}
use Rattle.row_text.specs.RowFiles.{seeds_seen}
use Rattle.row_text.specs.declared.row_file.RowFile.{RowFile}
use Rattle.tuple_index.specs.PlanFault.{IsFaultOf}
use Rattle.tuple_index.specs.believed.PlanFault.{limit_passed}
use Rattle.tuple_index.specs.declared.fault.PlanFault.{PlanFault}
use Rattle.tuple_index.specs.declared.fault.PlanFault.TheVariants.{TooManySets, TooManyTuples}
use Rattle.tuple_index.specs.declared.fault.PlanFault.TheVariants as plan_faults
use Rattle.command_line.specs.believed.Stops.{stop_of_plan}
use Rattle.command_line.specs.declared.files.FileKind.TheVariants as kinds
use Rattle.command_line.specs.declared.stop.Stop.{Stop}
use Rattle.command_line.specs.declared.stop.Stop.TheVariants.{CannotRead, CannotWrite, CannotWriteReport}
use Rattle.outside_io.specs.believed.Seen.{FolderSeen, KeepsReadFaults, ReadFaultsRose}
use Rattle.pict_cli.specs.believed.Ends.{CountsReads, End, Stopped, Unread, end_of}
use Rattle.pict_cli.specs.Ends.{IsAnswered, IsEarly}
use Rattle.pict_cli.specs.believed.Modes.{Generate, Measure, Mode, RowSource, Suspect, makes_plan, mode_of, row_file}
use Rattle.pict_cli.specs.Modes.{row_mode}
use Rattle.pict_cli.specs.believed.RowSources.{later_notes, notes_on, read_bytes, read_row_bytes, read_source, reading_or_none, stop_in, without_results}
use Rattle.pict_cli.specs.believed.Runs.{EndsBehind, WritesProof, all_notes, cannot_write, cannot_write_proof, comes_whole, file_notes, given_of, limit_due}
use Rattle.pict_cli.specs.believed.Runs.{must_stop, no_memory, notes_behind, notes_due, notes_told, out_text, reading_of, rows_of_run, rows_unread, stop_due, text_in, work_in}
use Rattle.pict_cli.specs.Steps.{HoldsRows, IsOfRows, StopsRows, StopsWork}
use Rattle.pict_cli.specs.Steps as steps
use Rattle.pict_cli.proofs.Early.{stopped_answered}

pub ends_by : (end : Result (Unit {0}) Stop) (stop : Stop) → IsErrAnd end (λ other. other ≡ stop) → end ≡ Err stop
ends_by (Ok done) stop none = absurd none
ends_by (Err other) stop is = ap Err is

-- the ends of steps are early
pub plan_stopped : (fault : PlanFault) → end_of (Err (stop_of_plan fault)) ≡ Stopped
plan_stopped plan_faults.NoMemory = refl
plan_stopped (TooManySets count) = refl
plan_stopped (TooManyTuples count) = refl

pub rows_early : (stop : Stop) → IsOfRows stop → IsEarly (end_of (Err stop))
rows_early stop (inl is) = subst (λ other. IsEarly (end_of (Err other))) (sym is) tt
rows_early stop (inr is) = subst IsEarly (sym is) tt

pub rows_answered : (effort : Effort) (stop : Stop) → IsOfRows stop → IsAnswered effort (end_of (Err stop))
rows_answered effort stop (inl is) = subst (λ other. IsAnswered effort (end_of (Err other))) (sym is) (λ full e. cc)
rows_answered effort stop (inr is) = stopped_answered effort (end_of (Err stop)) is

-- the counts of faults of reading after a row file that stopped
pub rows_counted : (s : Settings) (name : List ℕ) (stop : Stop) (before after : FolderSeen) → IsOfRows stop
    → (stop ≡ (CannotRead kinds.Rows) → IsSomeAnd (row_file s) (λ file. ReadFaultsRose file before after))
    → (stop ≢ (CannotRead kinds.Rows) → KeepsReadFaults before after) → CountsReads s name (end_of (Err stop)) before after
rows_counted s name stop before after (inl is) rose keeps = subst (λ other. CountsReads s name (end_of (Err other)) before after) (sym is) (rose is)
rows_counted s name stop before after (inr is) rose keeps =
    subst (λ end. CountsReads s name end before after) (sym is)
    (keeps (λ e. let other : Unread kinds.Rows ≡ Stopped = sym (ap (λ x. end_of (Err x)) e) ∙ is in cc))

-- the limit of the demand, where the run goes by a plan
planned : (s : Settings) (m : ModelView) → makes_plan (mode_of s) ≡ true → limit_due s m ≡ option_map stop_of_plan (limit_passed m)
planned s m plans = ap (λ b. if b then option_map stop_of_plan (limit_passed m) else None) plans

pub within_due : (s : Settings) (m : ModelView) → makes_plan (mode_of s) ≡ true → limit_passed m ≡ None → limit_due s m ≡ None
within_due s m plans within = planned s m plans ∙ ap (option_map stop_of_plan) within

at_limit : (s : Settings) (seed : ℕ) (m : ModelView) (source : RowSource) (stop : Stop) (end : Result (Unit {0}) Stop)
    → end ≡ Err stop → limit_due s m ≡ Some stop → EndsBehind s seed m source [] end
at_limit s seed m source stop end e due =
    must_stop stop e (ap (λ l. option_or l (option_or (stop_in (reading_of s m source)) (work_in (mode_of s) s seed m (given_of s m source)))) due)
    (sym (ap (λ l. notes_behind l (file_notes s m source)) due))

-- a plan stops
pub limited : (s : Settings) (seed : ℕ) (m : ModelView) (source : RowSource) (fault : PlanFault) (end : Result (Unit {0}) Stop)
    → makes_plan (mode_of s) ≡ true → end ≡ Err (stop_of_plan fault) → IsFaultOf m fault → EndsBehind s seed m source [] end
limited s seed m source plan_faults.NoMemory end plans e is = no_memory 0 e refl
limited s seed m source (TooManySets count) end plans e is =
    at_limit s seed m source (stop_of_plan (TooManySets count)) end e (planned s m plans ∙ ap (option_map stop_of_plan) is)
limited s seed m source (TooManyTuples count) end plans e is =
    at_limit s seed m source (stop_of_plan (TooManyTuples count)) end e (planned s m plans ∙ ap (option_map stop_of_plan) is)

-- the row file stops
pub rows_stopped : (s : Settings) (seed : ℕ) (m : ModelView) (source : RowSource) (stop : Stop) (end : Result (Unit {0}) Stop)
    → end ≡ Err stop → limit_due s m ≡ None → StopsRows (read_bytes (mode_of s) m) source stop → EndsBehind s seed m source [] end
rows_stopped s seed m source stop end e within (steps.no_room is) = no_memory 0 (e ∙ ap Err is) refl
rows_stopped s seed m source stop end e within (steps.folder_failed is) = rows_unread (e ∙ ap Err is) within refl
rows_stopped s seed m source stop end e within (steps.is_refused is) =
    must_stop stop e
    (ap (λ l. option_or l (option_or (stop_in (reading_of s m source)) (work_in (mode_of s) s seed m (given_of s m source)))) within
    ∙ ap (λ r. option_or (stop_in r) (work_in (mode_of s) s seed m (reading_or_none r))) is)
    (sym (ap (λ l. notes_behind l (file_notes s m source)) within ∙ ap (λ r. notes_on (reading_or_none r)) is))

-- what a row file gives whose results aren't read
row_bytes : (mode : Mode) (m : ModelView) → makes_plan mode ≡ true → read_bytes mode m ≡ read_row_bytes m (row_mode mode)
row_bytes (Generate output) m plans = refl
row_bytes (Measure name) m plans = refl
row_bytes (Suspect name) m plans = absurd (false≢true plans)

pub stops_rows : (s : Settings) (m : ModelView) (source : RowSource) (stop : Stop) → makes_plan (mode_of s) ≡ true
    → StopsRows (read_row_bytes m (row_mode (mode_of s))) source stop → StopsRows (read_bytes (mode_of s) m) source stop
stops_rows s m source stop plans stops = subst (λ read. StopsRows read source stop) (sym (row_bytes (mode_of s) m plans)) stops

abbrev pub given_in : RowFile → RowReading → ResultReading
given_in file reading = without_results (record { rows = seeds_seen file; notes = reading.notes })

pub file_read : (s : Settings) (m : ModelView) (source : RowSource) (file : RowFile) → makes_plan (mode_of s) ≡ true → (read : HoldsRows m (row_mode (mode_of s)) source file)
    → reading_of s m source ≡ Ok (given_in file read.reading)
file_read s m source file plans read =
    ap (λ bytes. read_source bytes source) (row_bytes (mode_of s) m plans) ∙ read.read
    ∙ ap (λ rows. Ok (without_results (record { rows = rows; notes = read.reading.notes }))) (sym read.holds.rows)

-- the row file was read, in a run of this mode: what it gives, and the notes on it
module _ (s : Settings) (seed : ℕ) (m : ModelView) (source : RowSource) (given : ResultReading) (notes : List Note) (within : limit_due s m ≡ None)
    (mode : Mode) (is : mode_of s ≡ mode) (read : reading_of s m source ≡ Ok given) (told : notes ≡ notes_on given) where
  given_same : given_of s m source ≡ given
  given_same = ap reading_or_none read

  notes_same : file_notes s m source ≡ notes
  notes_same = ap notes_on given_same ∙ sym told

  all_same : all_notes s m source ≡ notes ++ later_notes mode m given.rows.rows
  all_same =
      ap (λ file. file ++ later_notes (mode_of s) m (rows_of_run s m source)) notes_same
      ∙ ap (λ other. notes ++ later_notes other m (rows_of_run s m source)) is ∙ ap (λ found. notes ++ later_notes mode m found.rows.rows) given_same

  due_same : stop_due s seed m source ≡ work_in mode s seed m given
  due_same =
      ap (λ l. option_or l (option_or (stop_in (reading_of s m source)) (work_in (mode_of s) s seed m (given_of s m source)))) within
      ∙ ap (λ r. option_or (stop_in r) (work_in (mode_of s) s seed m (reading_or_none r))) read ∙ ap (λ other. work_in other s seed m given) is

  due_notes : notes_due s m source ≡ notes
  due_notes = ap (λ l. notes_behind l (file_notes s m source)) within ∙ notes_same

  told_same : notes_told s seed m source ≡ notes ++ notes_behind (work_in mode s seed m given) (later_notes mode m given.rows.rows)
  told_same =
      ap (λ file. file ++ notes_behind (stop_due s seed m source) (later_notes (mode_of s) m (rows_of_run s m source))) due_notes
      ∙ ap (λ due. notes ++ notes_behind due (later_notes (mode_of s) m (rows_of_run s m source))) due_same
      ∙ ap (λ other. notes ++ notes_behind (work_in mode s seed m given) (later_notes other m (rows_of_run s m source))) is
      ∙ ap (λ found. notes ++ notes_behind (work_in mode s seed m given) (later_notes mode m found.rows.rows)) given_same

  pub text_same : out_text s seed m (given_of s m source) ≡ text_in mode s seed m given
  text_same = ap (out_text s seed m) given_same ∙ ap (λ other. text_in other s seed m given) is

  pub proof_same : (before after : FolderSeen) (end : End) → WritesProof s seed m given.rows.rows before after end → WritesProof s seed m (rows_of_run s m source) before after end
  proof_same before after end writes = subst (λ found. WritesProof s seed m found.rows.rows before after end) (sym given_same) writes

  -- the work stopped
  pub work_stopped : (stop : Stop) (end : Result (Unit {0}) Stop) (row_notes : List Note) → end ≡ Err stop
      → StopsWork (work_in mode s seed m given) (later_notes mode m given.rows.rows) notes row_notes stop → EndsBehind s seed m source row_notes end
  work_stopped stop end row_notes e (steps.no_memory count out added) =
      no_memory (length notes + count) (e ∙ ap Err out)
      (added ∙ sym (take-append-add notes (notes_behind (work_in mode s seed m given) (later_notes mode m given.rows.rows)) count)
      ∙ ap (take (length notes + count)) (sym told_same))
  work_stopped stop end row_notes e (steps.is_due due added) =
      must_stop stop e (due_same ∙ due) (added ∙ sym due_notes)

  -- what was made was written, or not whole
  pub work_written : (end : Result (Unit {0}) Stop) (row_notes : List Note) → work_in mode s seed m given ≡ None
      → row_notes ≡ notes ++ later_notes mode m given.rows.rows
      → IfErr end (λ stop. (stop ≡ CannotWriteReport) ⊎ ((stop ≡ (CannotWrite kinds.Proof)) × (s.proof ≢ None))) → EndsBehind s seed m source row_notes end
  work_written end row_notes answered added stops = written end stops s.proof refl
    where
      due : stop_due s seed m source ≡ None
      due = due_same ∙ answered

      written : (end : Result (Unit {0}) Stop)
          → IfErr end (λ stop. (stop ≡ CannotWriteReport) ⊎ ((stop ≡ (CannotWrite kinds.Proof)) × (s.proof ≢ None)))
          → (proof : Option (List ℕ)) → s.proof ≡ proof → EndsBehind s seed m source row_notes end
      written (Ok done) stops proof asked = comes_whole refl due (added ∙ sym all_same)
      written (Err stop) (inl is) proof asked = cannot_write (ap Err is) due (added ∙ sym all_same)
      written (Err stop) (inr both) None asked = absurd (both.1 asked)
      written (Err stop) (inr both) (Some name) asked = cannot_write_proof name (ap Err both.0) asked due (added ∙ sym all_same)
