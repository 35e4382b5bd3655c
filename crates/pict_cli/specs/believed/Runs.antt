-- What a run of `pict` does with the bytes of a model file and of a row file. (PICT's guide for what is printed; the
-- steps, their order and their statuses are this project's rules.)
use Rattle.std.specs.List.{Any, list_any}
use Rattle.std.specs.Prelude.{◌≡◌, true, ℕ, ◌≤◌, ◌⊎◌, List, [], ◌∷◌, ◌==◌, ◌++◌, length, take, map, Option, Some, None, Result, Ok}
use Rattle.std.specs.Prelude.{Err, option_map, IsSomeAnd, IsOkAnd, IsErrAnd, IfSome, All, unwrap_or, option_and_then, nat_lt, if◌then◌else◌}
use Rattle.std.specs.Option.{option_or}
use Rattle.outside_io.specs.believed.Files.{Files, HoldsOldOrPrefix}
use Rattle.outside_io.specs.believed.Seen.{FolderSeen, SinkSeen, KeepsFiles}
use Rattle.cov_model.specs.believed.Sound.{ModelView, IsSound}
use Rattle.cov_model.specs.believed.Preference.{preference}
use Rattle.model_lex.specs.declared.options.ModelOpts.{ModelOpts}
use Rattle.model_lex.specs.declared.note.Note.{Note}
use Rattle.model_lex.specs.declared.fault.ModelFault.{ModelFault}
use Rattle.cov_model.specs.believed.Rows.{contains}
use Rattle.cov_model.specs.believed.Valid.{is_valid, serves}
use Rattle.definitions.specs.declared.effort.Effort.{Effort}
use Rattle.definitions.specs.declared.effort.Effort.TheVariants.{Within, Full}
use Rattle.definitions.specs.believed.Covering.{HasFewRows, IsUnserved}
use Rattle.definitions.specs.believed.Demand.{demanded_tuples}
use Rattle.definitions.specs.believed.Figures.{figures}
use Rattle.definitions.specs.believed.Growth.{Grown, growth}
use Rattle.definitions.specs.believed.Limits as limits
use Rattle.definitions.specs.believed.Limits.{ModelFile, most_bytes, most_counted}
use Rattle.definitions.specs.believed.Pairs.{pairs_of}
use Rattle.definitions.specs.believed.ProofText.{Omission, omissions_of}
use Rattle.definitions.specs.believed.Report.{report_text}
use Rattle.definitions.specs.believed.RowFile.{rows_of}
use Rattle.definitions.specs.believed.RowReading.{Suite, read_rows}
use Rattle.definitions.specs.believed.Search.{first_measured_over, first_over}
use Rattle.definitions.specs.believed.Seeds.{kept_seeds}
use Rattle.definitions.specs.believed.Statistics as printed
use Rattle.definitions.specs.believed.Statistics.{figures_text, statistics, statistics_text}
use Rattle.definitions.specs.believed.SuiteLaws.{IsRefutedIn, ListsUnserved}
use Rattle.definitions.specs.believed.SuiteProof.{IsProofOfSuite}
use Rattle.definitions.specs.believed.Verdict.{Accepted, verdict}
use Rattle.definitions.specs.believed.Settings.{Shuffle, NoShuffle, AnyShuffle, ShuffleBy, Settings}
use Rattle.suspect_tuples.specs.believed.ResultReading.{ResultReading}
use Rattle.suspect_tuples.specs.believed.Suspects.{candidate_count, failing_rows, suspects}
use Rattle.suspect_tuples.specs.believed.SuspectsText.{suspects_text}
use Rattle.tuple_index.specs.believed.PlanFault.{limit_passed}
use Rattle.tuple_index.specs.believed.PlanFault.{saturated}
use Rattle.type_check.specs.believed.ModelOf.{IsModelOf}
use Rattle.command_line.specs.believed.Loading.{StopsReading}
use Rattle.command_line.specs.believed.Stops.{NamesView, status_of, stop_of_model, stop_of_plan}
use Rattle.command_line.specs.believed.Told.{Tells, end_status, told_text}
use Rattle.command_line.specs.believed.Words.{opts_of}
use Rattle.command_line.specs.declared.stop.Stop.{Stop}
use Rattle.command_line.specs.declared.stop.Stop.TheVariants.{OutOfMemory, Spent, CannotRead, CannotWrite, CannotWriteReport, TooMany}
use Rattle.command_line.specs.declared.stop.Quantity.TheVariants.{SuspectCandidates}
use Rattle.command_line.specs.declared.files.FileKind.TheVariants as kinds
use Rattle.pict_cli.specs.believed.Ends.{CountsOut, CountsReads, CountsWrites, End, KeepsOthers, Moment, Prints, Unprinted, Unwritten, Whole, end_of}
use Rattle.pict_cli.specs.believed.Making.{EndsFrom}
use Rattle.pict_cli.specs.believed.Modes.{Generate, Measure, Mode, Output, Report, RowSource, Statistics, Suspect, makes_plan, mode_of, model_source, row_file, row_source}
use Rattle.pict_cli.specs.believed.RowSources.{later_notes, notes_on, read_bytes, read_source, reading_or_none, stop_in}

-- what the values are shuffled by, where they are, and the seed that is told since no word gave it
abbrev pub shuffled_by : Shuffle → ℕ → Option ℕ
shuffled_by NoShuffle seed = None
shuffled_by AnyShuffle seed = Some seed
shuffled_by (ShuffleBy n) seed = Some n

abbrev pub used_seed : Shuffle → ℕ → Option ℕ
used_seed NoShuffle seed = None
used_seed AnyShuffle seed = Some seed
used_seed (ShuffleBy n) seed = None

-- the preference orders, and the growth from the seed rows
abbrev pub orders_of : Settings → ℕ → ModelView → List (List ℕ)
orders_of s seed m = preference m (shuffled_by s.shuffle seed)

abbrev pub growth_of : Settings → ℕ → ModelView → List (ℕ × List (Option ℕ)) → Grown
growth_of s seed m seeds = growth m (orders_of s seed m) seeds

-- the text of a suite with these rows and these statistics
abbrev pub suite_text : Output → ModelView → List (List (Option ℕ)) → printed.Statistics → List ℕ
suite_text Report m rows numbers = report_text m rows
suite_text Statistics m rows numbers = statistics_text numbers

-- rows as a suite
abbrev pub suite_in : ResultReading → List (List (Option ℕ))
suite_in given = map (λ row. row.1) given.rows.rows

-- the text for standard output, by what the run does, from what the row file gives: of the suite that is grown from its
-- rows, or the figures of the suite that these are, or the suspicious tuples in its results
abbrev pub text_in : Mode → Settings → ℕ → ModelView → ResultReading → List ℕ
text_in (Generate output) s seed m given = suite_text output m (growth_of s seed m given.rows.rows).rows (statistics m (orders_of s seed m) given.rows.rows)
text_in (Measure name) s seed m given = figures_text (figures m (suite_in given))
text_in (Suspect name) s seed m given = suspects_text (suspects m (suite_in given) given.failed)

abbrev pub out_text : Settings → ℕ → ModelView → ResultReading → List ℕ
out_text s seed m given = text_in (mode_of s) s seed m given

-- the bytes are the proof of the suite, in the format that is asked for
abbrev pub IsProof : Settings → ℕ → ModelView → List (ℕ × List (Option ℕ)) → List ℕ → Type 0
IsProof s seed m seeds bytes = IsProofOfSuite m (orders_of s seed m) seeds s.effort s.form bytes

-- the names of the files of a run on a model file of this name
abbrev pub file_names : List ℕ → Settings → NamesView
file_names model s = record { model = model; rows = unwrap_or (row_file s) []; proof = unwrap_or s.proof [] }

-- the first question of growth whose plain cost is above what a question may cost
abbrev pub growth_over : Settings → ℕ → ModelView → List (ℕ × List (Option ℕ)) → Option (List (Option ℕ))
growth_over s seed m seeds = first_over m (orders_of s seed m) s.effort (growth_of s seed m seeds).asked

-- what the row file gives the run: its reading; the rows, and the notes on the file
abbrev pub reading_of : Settings → ModelView → RowSource → Result ResultReading Stop
reading_of s m source = read_source (read_bytes (mode_of s) m) source

abbrev pub given_of : Settings → ModelView → RowSource → ResultReading
given_of s m source = reading_or_none (reading_of s m source)

abbrev pub rows_of_run : Settings → ModelView → RowSource → List (ℕ × List (Option ℕ))
rows_of_run s m source = (given_of s m source).rows.rows

abbrev pub file_notes : Settings → ModelView → RowSource → List Note
file_notes s m source = notes_on (given_of s m source)

abbrev pub all_notes : Settings → ModelView → RowSource → List Note
all_notes s m source = file_notes s m source ++ later_notes (mode_of s) m (rows_of_run s m source)

-- the stop of the first question whose plain cost is above the budget, if there is one: without a budget none is; and
-- that of too many candidates for suspicious tuples
abbrev pub spent_at : Effort → Option (List (Option ℕ)) → Option Stop
spent_at (Within budget) over = option_map (λ question. Spent budget (pairs_of question)) over
spent_at Full over = None

abbrev pub candidates_stop : ℕ → Option Stop
candidates_stop count = if nat_lt (most_counted limits.SuspectCandidates) count then Some (TooMany SuspectCandidates (saturated count)) else None

-- the limit that the demand passes, where the run goes by a plan of it
abbrev pub limit_due : Settings → ModelView → Option Stop
limit_due s m = if makes_plan (mode_of s) then option_map stop_of_plan (limit_passed m) else None

-- why a run must stop at its work on what the row file gives, if it must: by the first question whose plain cost is above
-- the budget, where it measures of the demanded tuples, or by the number of candidates
abbrev pub work_in : Mode → Settings → ℕ → ModelView → ResultReading → Option Stop
work_in (Generate output) s seed m given = spent_at s.effort (growth_over s seed m given.rows.rows)
work_in (Measure name) s seed m given = spent_at s.effort (first_measured_over m s.effort)
work_in (Suspect name) s seed m given = candidates_stop (candidate_count m (failing_rows (suite_in given) given.failed))

-- why a run must stop once its model is read, if it must: by the limit that the demand passes, else at the row file,
-- else at its work
abbrev pub stop_due : Settings → ℕ → ModelView → RowSource → Option Stop
stop_due s seed m source =
    option_or (limit_due s m) (option_or (stop_in (reading_of s m source)) (work_in (mode_of s) s seed m (given_of s m source)))

-- the notes on the row file that are told before such a stop: none where the limit comes before the file is read
abbrev pub notes_behind : Option Stop → List Note → List Note
notes_behind None notes = notes
notes_behind (Some stop) notes = []

abbrev pub notes_due : Settings → ModelView → RowSource → List Note
notes_due s m source = notes_behind (limit_due s m) (file_notes s m source)

-- the notes on the row file of a run that finds memory: those that are told before its stop, or all where it needn't stop
abbrev pub notes_told : Settings → ℕ → ModelView → RowSource → List Note
notes_told s seed m source = notes_due s m source ++ notes_behind (stop_due s seed m source) (later_notes (mode_of s) m (rows_of_run s m source))

-- the bytes of a model file are no more than they may be and spell a model, and P holds of it and its notes:
-- of each that they spell, which is one alone (`FilesHaveOneAnswer` of `type_check`)
pub record SpellsModel (opts : ModelOpts) (P : ModelView → List Note → Type 0) (bytes : List ℕ) : Type 0 where
  pub within : length bytes ≤ most_bytes ModelFile
  pub model : ModelView
  pub notes : List Note
  pub spelled : IsModelOf opts bytes model notes
  pub each : (m : ModelView) (noted : List Note) → IsModelOf opts bytes m noted → P m noted

-- the model file is there and spells a model, and P holds of it and its notes
abbrev pub HasModel : ModelOpts → Option (List ℕ) → (ModelView → List Note → Type 0) → Type 0
HasModel opts held P = IsSomeAnd held (SpellsModel opts P)

-- how a run may end once its model is read, and which notes on the row file it tells: it comes to its end; memory is
-- wanted, and the first of those notes are told that it tells where memory is found; the folder fails to read the row
-- file; it stops as it must; and, where it needn't stop, the proof file or the output can't be written
pub data EndsBehind (s : Settings) (seed : ℕ) (m : ModelView) (source : RowSource) (row_notes : List Note) (end : Result (Unit {0}) Stop) : Type 0 where
  comes_whole : end ≡ Ok tt → stop_due s seed m source ≡ None → row_notes ≡ all_notes s m source → EndsBehind s seed m source row_notes end
  no_memory : (count : ℕ) → end ≡ Err OutOfMemory → row_notes ≡ take count (notes_told s seed m source) → EndsBehind s seed m source row_notes end
  rows_unread : end ≡ Err (CannotRead kinds.Rows) → limit_due s m ≡ None → row_notes ≡ [] → EndsBehind s seed m source row_notes end
  must_stop : (stop : Stop) → end ≡ Err stop → stop_due s seed m source ≡ Some stop → row_notes ≡ notes_due s m source
      → EndsBehind s seed m source row_notes end
  cannot_write_proof : (name : List ℕ) → end ≡ Err (CannotWrite kinds.Proof) → s.proof ≡ Some name → stop_due s seed m source ≡ None
      → row_notes ≡ all_notes s m source → EndsBehind s seed m source row_notes end
  cannot_write : end ≡ Err CannotWriteReport → stop_due s seed m source ≡ None → row_notes ≡ all_notes s m source → EndsBehind s seed m source row_notes end

-- what is told of the proof file's name after such an end, where that was told before: the file holds the proof once it
-- was written, a prefix of it or what it held where that failed, and else what it held
abbrev pub HoldsProof : Settings → ℕ → ModelView → List (ℕ × List (Option ℕ)) → Option (Option (List ℕ)) → Option (Option (List ℕ)) → End → Type 0
HoldsProof s seed m seeds before after Whole = IfSome after (λ held. IsSomeAnd held (IsProof s seed m seeds))
HoldsProof s seed m seeds before after Unprinted = IfSome after (λ held. IsSomeAnd held (IsProof s seed m seeds))
HoldsProof s seed m seeds before after (Unwritten kinds.Proof) =
    IfSome after (λ held. (proof : List ℕ) × IsProof s seed m seeds proof × HoldsOldOrPrefix before held proof)
HoldsProof s seed m seeds before after end = after ≡ before

-- what the folder tells of the proof file's name after such an end, where the words ask for one
abbrev pub WritesProof : Settings → ℕ → ModelView → List (ℕ × List (Option ℕ)) → FolderSeen → FolderSeen → End → Type 0
WritesProof s seed m seeds before after end = IfSome s.proof (λ name. HoldsProof s seed m seeds (before.files name) (after.files name) end)

-- a run whose model is read: how it may end, what it tells of the row file, what it prints, and what it writes: the
-- proof file alone
pub record RunsModel (s : Settings) (seed : ℕ) (m : ModelView) (source : RowSource) (row_notes : List Note) (before after : Moment) (end : Result (Unit {0}) Stop) : Type 0 where
  pub sound : IsSound m
  pub ends : EndsBehind s seed m source row_notes end
  pub prints : Prints (out_text s seed m (given_of s m source)) before.out after.out (end_of end)
  pub writes : WritesProof s seed m (rows_of_run s m source) before.folder after.folder (end_of end)
  pub others : KeepsOthers s.proof before.folder after.folder

-- how a run on a model file and a row file may end, with which notes, what it prints, and what it writes: the reading of
-- the model stopped, or there is a model, and it goes on with that where the row file is told
abbrev pub Ends : Settings → ℕ → Option (List ℕ) → Option RowSource → List Note → List Note → Moment → Moment → Result (Unit {0}) Stop → Type 0
Ends s seed held rows notes row_notes before after end =
    (IsErrAnd end (StopsReading (opts_of s) held) × (notes ≡ []) × (row_notes ≡ []) × (after.out ≡ before.out) × KeepsFiles before.folder after.folder)
    ⊎ HasModel (opts_of s) held (λ m noted. (notes ≡ noted) × IfSome rows (λ source. RunsModel s seed m source row_notes before after end))

-- a run on a model file of this name: what it wrote and printed, by the bytes of its model where the folder tells them,
-- and by those of its row file where it tells these; whose fault a file or an output that it blames is; what it told, and its status
pub record IsRun (s : Settings) (seed : ℕ) (name : List ℕ) (before after : Moment) (told_before told_after : SinkSeen) (status : ℕ) : Type 0 where
  pub notes : List Note
  pub row_notes : List Note
  pub end : Result (Unit {0}) Stop
  pub ends : (held : Option (List ℕ)) → model_source s name before.folder.files ≡ Some held
      → EndsFrom s.make name (λ start. Ends s seed held (row_source s before.folder.files) notes row_notes start after end) notes row_notes before after end
  pub reads : CountsReads s name (end_of end) before.folder after.folder
  pub writes : CountsWrites s name (end_of end) before.folder after.folder
  pub out : CountsOut (end_of end) before.out after.out
  pub told : Tells told_before told_after (told_text (used_seed s.shuffle seed) notes row_notes (file_names name s) end)
  pub ended : status ≡ end_status end

-- what the folder tells of the proof file, where the words ask for one
abbrev pub told_proof : Settings → Files → Option (Option (List ℕ))
told_proof s files = option_and_then files s.proof

-- the kept seed rows of the run
abbrev pub seeds_kept : Settings → ModelView → RowSource → List (List (Option ℕ))
seeds_kept s m source = kept_seeds m (rows_of_run s m source)

-- rows cover what can be covered: every row is valid, and every demanded tuple is served by one of the rows, or no
-- row serves it, and then the proof, where one is told, lists it with a tree that refutes it
pub record CoversOrRefutes (m : ModelView) (format : ℕ) (proof : Option (Option (List ℕ))) (rows : List (List (Option ℕ))) : Type 0 where
  pub valid : All (λ row. is_valid m row ≡ true) rows
  pub served : All (λ tuple. Any (λ row. serves m row tuple ≡ true) rows
      ⊎ (IsUnserved m tuple × IfSome proof (λ held. IsSomeAnd held (λ bytes. IsRefutedIn m format bytes tuple)))) (demanded_tuples m)

-- each of these partial rows is contained in one of the rows
abbrev pub AreContained : List (List (Option ℕ)) → List (List (Option ℕ)) → Type 0
AreContained seeds rows = All (λ seed. Any (λ row. contains row seed ≡ true) rows) seeds

-- a text and a proof are accepted as the checker reads them: the proof is read as omissions in this format; no limit is
-- passed; the text, where it has no more rows than a row file may have, is read as a whole suite; and the verdict on its
-- rows accepts with the numbers of rows and of omissions, on whatever lines the rows stand
pub record IsAcceptedWith (m : ModelView) (format : ℕ) (proof text : List ℕ) : Type 0 where
  pub omissions : List Omission
  pub read : omissions_of m proof ≡ Ok (format, omissions)
  pub within : limit_passed m ≡ None
  pub as_read : length (rows_of m text) ≤ most_counted limits.Rows
      → IsOkAnd (read_rows m Suite text) (λ reading. verdict m reading.rows proof ≡ Accepted (length reading.rows) (length omissions))
  pub on_lines : (lines : List (ℕ × List (Option ℕ))) → map (λ line. line.1) lines ≡ rows_of m text → verdict m lines proof ≡ Accepted (length lines) (length omissions)

-- what was printed of the suite of a model behind other bytes, where the proof file is told so
pub record PrintsSuite (s : Settings) (m : ModelView) (source : RowSource) (proof : Option (Option (List ℕ))) (before after : List ℕ) : Type 0 where
  pub added : List ℕ
  pub behind : after ≡ before ++ added
  -- every row is valid, and every demanded tuple is served by one of them, or no row serves it, and the proof refutes it
  pub covers : CoversOrRefutes m s.form proof (rows_of m added)
  -- no row stands twice, and there are no more than tuples that some row serves, and kept seed rows
  pub few : HasFewRows m (length (seeds_kept s m source)) (rows_of m added)
  -- each kept seed row is contained in one of them
  pub seeds : AreContained (seeds_kept s m source) (rows_of m added)
  -- the checker accepts them with the proof
  pub accepted : IfSome proof (λ held. IsSomeAnd held (λ bytes. IsAcceptedWith m s.form bytes added))

-- the file holds the proof of the suite, which lists exactly the demanded tuples that no row serves, each once
abbrev pub HoldsWholeProof : Settings → ℕ → ModelView → List (ℕ × List (Option ℕ)) → Option (List ℕ) → Type 0
HoldsWholeProof s seed m seeds held = IsSomeAnd held (λ bytes. IsProof s seed m seeds bytes × ListsUnserved m s.form bytes)

-- the status of a refusal
abbrev pub fault_status : ModelFault → ℕ
fault_status fault = status_of (stop_of_model fault)

-- the statuses that a run may end with
abbrev pub IsStatus : ℕ → Type 0
IsStatus status = list_any (λ s. s == status) (0 ∷ 1 ∷ 2 ∷ 3 ∷ 4 ∷ 5 ∷ 6 ∷ 7 ∷ 8 ∷ 9 ∷ []) ≡ true
