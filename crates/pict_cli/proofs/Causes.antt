-- Which status a run must end with, from what its files hold.
use Rattle.std.proofs.Common.{◌≡◌, ℕ, ◌<◌, ◌≤◌, List, Option, None, Some, Ok, Err, Result, inl, inr, refl, sym, ap, subst, ◌∙◌, length, arith}
use Rattle.std.specs.Prelude.{◌⊎◌, ◌≢◌, option_map, IfSome, IsSomeAnd, IsErrAnd}
use Rattle.std.specs.Option.{option_or}
use Rattle.std.proofs.lemmas.Option.{none-some, same_Some}
use Rattle.outside_io.specs.believed.Seen.{WriteFaultsRose, PutFaultsRose}
use Rattle.cov_model.specs.believed.Sound.{ModelView}
use Rattle.made_models.specs.believed.MadeModel.{made_text}
use Rattle.definitions.specs.believed.Limits.{ModelFile, most_bytes}
use Rattle.definitions.specs.believed.Settings.{Settings}
use Rattle.model_lex.specs.declared.note.Note.{Note}
use Rattle.model_lex.specs.declared.options.ModelOpts.{ModelOpts}
use Rattle.model_lex.specs.declared.fault.ModelFault.{ModelFault}
use Rattle.type_check.specs.believed.ModelOf.{IsModelOf, IsRefusalOf}
use Rattle.type_check.proofs.OneAnswer.{models_are_not_refused, refusals_are_one}
use Rattle.command_line.specs.believed.Loading.{IsRefused, StopsReading, cannot_read, is_refused, out_of_memory, too_long}
use Rattle.command_line.specs.believed.Stops.{status_of}
use Rattle.command_line.specs.believed.Told.{end_status}
use Rattle.command_line.specs.declared.files.FileKind.TheVariants as kinds
use Rattle.command_line.specs.declared.stop.Stop.{Stop}
use Rattle.command_line.specs.declared.stop.Stop.TheVariants.{CannotRead, CannotWrite, CannotWriteReport}
use Rattle.pict_cli.specs.believed.Ends.{CountsOut, CountsReads, CountsWrites, Moment, Unwritten, end_of}
use Rattle.pict_cli.specs.believed.Modes.{RowSource, RowsHeld, mode_of, model_from, model_source, row_source}
use Rattle.pict_cli.specs.believed.Runs.{Ends, EndsBehind, RunsModel, cannot_write, cannot_write_proof, comes_whole, fault_status, given_of, limit_due, must_stop, no_memory, reading_of, rows_unread, stop_due, work_in}
use Rattle.pict_cli.specs.believed.RowSources.{stop_in}
use Rattle.pict_cli.specs.Steps.{Ran}
use Rattle.command_line.specs.believed.Words.{opts_of}
use Rattle.pict_cli.specs.believed.Words.{GetsModelCalmly, ReadsCalmly, WritesCalmly}
use Rattle.pict_cli.proofs.FromModel.{from_model}

-- why a run on a model ends that needn't stop
whole_end : (s : Settings) (seed : ℕ) (m : ModelView) (source : RowSource) (notes : List Note) (end : Result (Unit {0}) Stop) → stop_due s seed m source ≡ None
    → end ≢ Err (CannotRead kinds.Rows) → end ≢ Err CannotWriteReport → end ≢ Err (CannotWrite kinds.Proof)
    → EndsBehind s seed m source notes end → (end_status end ≡ 0) ⊎ (end_status end ≡ 1)
whole_end s seed m source notes end due read write proof (comes_whole e free told) = inl (ap end_status e)
whole_end s seed m source notes end due read write proof (no_memory count e told) = inr (ap end_status e)
whole_end s seed m source notes end due read write proof (rows_unread e within told) = absurd (read e)
whole_end s seed m source notes end due read write proof (must_stop stop e other told) = absurd (none-some stop (sym due ∙ other))
whole_end s seed m source notes end due read write proof (cannot_write_proof name e asked free told) = absurd (proof e)
whole_end s seed m source notes end due read write proof (cannot_write e free told) = absurd (write e)

-- and of one that must stop
stopped_end_behind : (s : Settings) (seed : ℕ) (m : ModelView) (source : RowSource) (notes : List Note) (end : Result (Unit {0}) Stop) (stop : Stop)
    → stop_due s seed m source ≡ Some stop → end ≢ Err (CannotRead kinds.Rows)
    → EndsBehind s seed m source notes end → (end_status end ≡ status_of stop) ⊎ (end_status end ≡ 1)
stopped_end_behind s seed m source notes end stop due read (comes_whole e free told) = absurd (none-some stop (sym free ∙ due))
stopped_end_behind s seed m source notes end stop due read (no_memory count e told) = inr (ap end_status e)
stopped_end_behind s seed m source notes end stop due read (rows_unread e within told) = absurd (read e)
stopped_end_behind s seed m source notes end stop due read (must_stop other e is told) = inl (ap end_status e ∙ ap status_of (same_Some other stop (sym is ∙ due)))
stopped_end_behind s seed m source notes end stop due read (cannot_write_proof name e asked free told) = absurd (none-some stop (sym free ∙ due))
stopped_end_behind s seed m source notes end stop due read (cannot_write e free told) = absurd (none-some stop (sym free ∙ due))

-- and of one whose row file is missing
missing_due : (s : Settings) (seed : ℕ) (m : ModelView) → limit_due s m ≡ None → stop_due s seed m (RowsHeld None) ≡ Some (CannotRead kinds.Rows)
missing_due s seed m within =
    ap (λ l. option_or l (option_or (stop_in (reading_of s m (RowsHeld None))) (work_in (mode_of s) s seed m (given_of s m (RowsHeld None))))) within

missing_end_behind : (s : Settings) (seed : ℕ) (m : ModelView) (notes : List Note) (end : Result (Unit {0}) Stop) → limit_due s m ≡ None
    → EndsBehind s seed m (RowsHeld None) notes end → (end_status end ≡ 7) ⊎ (end_status end ≡ 1)
missing_end_behind s seed m notes end within (comes_whole e free told) = absurd (none-some (CannotRead kinds.Rows) (sym free ∙ missing_due s seed m within))
missing_end_behind s seed m notes end within (no_memory count e told) = inr (ap end_status e)
missing_end_behind s seed m notes end within (rows_unread e passed told) = inl (ap end_status e)
missing_end_behind s seed m notes end within (must_stop other e is told) =
    inl (ap end_status e ∙ ap status_of (same_Some other (CannotRead kinds.Rows) (sym is ∙ missing_due s seed m within)))
missing_end_behind s seed m notes end within (cannot_write_proof name e asked free told) = absurd (none-some (CannotRead kinds.Rows) (sym free ∙ missing_due s seed m within))
missing_end_behind s seed m notes end within (cannot_write e free told) = absurd (none-some (CannotRead kinds.Rows) (sym free ∙ missing_due s seed m within))

-- why a run ends whose reading stopped: Q is the status of a refusal, and R that of a file with too many bytes
reading_end :
    (opts : ModelOpts) (held : Option (List ℕ)) (end : Result (Unit {0}) Stop) (Q : Type 0) → end ≢ Err (CannotRead kinds.Model)
    → (IsSomeAnd held (λ bytes. most_bytes ModelFile < length bytes) → end_status end ≡ 9 → Q)
    → ((fault : ModelFault) → IsSomeAnd held (IsRefused opts fault) → end_status end ≡ fault_status fault → Q)
    → IsErrAnd end (StopsReading opts held) → Q ⊎ (end_status end ≡ 1)
reading_end opts held (Ok done) Q read long refused none = absurd none
reading_end opts held (Err stop) Q read long refused (out_of_memory e) = inr (ap status_of e)
reading_end opts held (Err stop) Q read long refused (cannot_read e) = absurd (read (ap Err e))
reading_end opts held (Err stop) Q read long refused (too_long e above) = inl (long above (ap status_of e))
reading_end opts held (Err stop) Q read long refused (is_refused fault e cause) = inl (refused fault cause (ap status_of e))

-- a run whose end has this status, on files that are told
module _ {s : Settings} {seed : ℕ} {name : List ℕ} {start after : Moment} {notes row_notes : List Note} {end : Result (Unit {0}) Stop}
    (ran : Ran s seed name start after notes row_notes end) (status : ℕ) (is : status ≡ end_status end) where
  calm : GetsModelCalmly s name start.folder after.folder → end ≢ Err (CannotRead kinds.Model)
  calm stays e = stays.0 (subst (λ x. CountsReads s name (end_of x) start.folder after.folder) e ran.leaves.reads)

  made_calm : GetsModelCalmly s name start.folder after.folder → end ≢ Err (CannotWrite kinds.Model)
  made_calm stays e = stays.1 (subst (λ x. CountsWrites s name (end_of x) start.folder after.folder) e ran.leaves.writes)

  -- what follows from the moment at which the run went on with its model
  from_begun : (held : Option (List ℕ)) (Q : Type 0) → model_source s name start.folder.files ≡ Some held → end ≢ Err (CannotWrite kinds.Model)
      → ((begun : Moment) → Ends s seed held (row_source s start.folder.files) notes row_notes begun after end → Q ⊎ (end_status end ≡ 1)) → Q ⊎ (end_status end ≡ 1)
  from_begun held Q at written says =
      from_model s.make name (λ begun. Ends s seed held (row_source s start.folder.files) notes row_notes begun after end) notes row_notes start after end _ (λ begun same. says begun)
      (λ memory. inr (ap end_status memory)) (λ fault. absurd (written fault)) (ran.ends held at)

  rows_calm : ReadsCalmly s name start.folder after.folder → end ≢ Err (CannotRead kinds.Rows)
  rows_calm stays e = stays kinds.Rows (subst (λ x. CountsReads s name (end_of x) start.folder after.folder) e ran.leaves.reads)

  ended : (Q : ℕ → Type 0) → Q (end_status end) ⊎ (end_status end ≡ 1) → Q status ⊎ (status ≡ 1)
  ended Q at = subst (λ n. Q n ⊎ (n ≡ 1)) (sym is) at

  -- a refused file: the refusal's status, unless memory was wanting
  pub refused_end : (bytes : List ℕ) (fault : ModelFault) → model_source s name start.folder.files ≡ Some (Some bytes) → length bytes ≤ most_bytes ModelFile
      → IsRefusalOf (opts_of s) bytes fault
      → GetsModelCalmly s name start.folder after.folder → (status ≡ fault_status fault) ⊎ (status ≡ 1)
  refused_end bytes fault at short refusal stays = ended (λ n. n ≡ fault_status fault) (from_begun (Some bytes) _ at (made_calm stays) (λ begun ends. elim ends [
    | inl reading ↦ reading_end (opts_of s) (Some bytes) end _ (calm stays) (λ above nine. absurd (omega (arith, above, short)))
        (λ other cause same. same ∙ ap fault_status (refusals_are_one (opts_of s) bytes other fault cause.1 refusal)) reading.0
    | inr model ↦ absurd (models_are_not_refused (opts_of s) bytes model.model model.notes fault model.spelled refusal)
  ]))

  -- a file with too many bytes
  pub long_end : (bytes : List ℕ) → model_source s name start.folder.files ≡ Some (Some bytes) → most_bytes ModelFile < length bytes
      → GetsModelCalmly s name start.folder after.folder → (status ≡ 9) ⊎ (status ≡ 1)
  long_end bytes at long stays = ended (λ n. n ≡ 9) (from_begun (Some bytes) _ at (made_calm stays) (λ begun ends. elim ends [
    | inl reading ↦
        reading_end (opts_of s) (Some bytes) end _ (calm stays) (λ above nine. nine) (λ other cause same. absurd (omega (arith, long, cause.0))) reading.0
    | inr model ↦ absurd (omega (arith, long, model.within))
  ]))

  -- no file
  pub missing_end : model_source s name start.folder.files ≡ Some None → (status ≡ 7) ⊎ (status ≡ 1)
  missing_end at = ended (λ n. n ≡ 7)
      (from_begun None _ at (λ e. unmade s.make refl at (subst (λ x. CountsWrites s name (end_of x) start.folder after.folder) e ran.leaves.writes)) (λ begun ends. elim ends [
        | inl reading ↦ missing end reading.0
        | inr none ↦ absurd none
      ]))
    where
      unmade : (make : Option ℕ) → s.make ≡ make → model_from make (start.folder.files name) ≡ Some None → ¬ CountsWrites s name (Unwritten kinds.Model) start.folder after.folder
      unmade None e told rose = subst (λ made. IsSomeAnd (option_map (λ n. name) made) (λ file. WriteFaultsRose file start.folder after.folder)) e rose
      unmade (Some n) e told rose = none-some (made_text n) (sym (same_Some (Some (made_text n)) None told))

      missing : (end : Result (Unit {0}) Stop) → IsErrAnd end (StopsReading (opts_of s) None) → (end_status end ≡ 7) ⊎ (end_status end ≡ 1)
      missing (Ok done) none = absurd none
      missing (Err stop) (out_of_memory e) = inr (ap status_of e)
      missing (Err stop) (cannot_read e) = inl (ap status_of e)
      missing (Err stop) (too_long e none) = absurd none
      missing (Err stop) (is_refused other e none) = absurd none

  -- a file that spells a model, and what follows for its end
  spelled_end : (Q : Type 0) (source : RowSource) (bytes : List ℕ) (m : ModelView) (told : List Note) → row_source s start.folder.files ≡ Some source → model_source s name start.folder.files ≡ Some (Some bytes) → length bytes ≤ most_bytes ModelFile
      → IsModelOf (opts_of s) bytes m told → GetsModelCalmly s name start.folder after.folder
      → (EndsBehind s seed m source row_notes end → Q ⊎ (end_status end ≡ 1)) → Q ⊎ (end_status end ≡ 1)
  spelled_end Q source bytes m told rows at short spelled stays says = from_begun (Some bytes) Q at (made_calm stays) (λ begun ends. elim ends [
    | inl reading ↦ reading_end (opts_of s) (Some bytes) end Q (calm stays) (λ above nine. absurd (omega (arith, above, short)))
        (λ fault cause same. absurd (models_are_not_refused (opts_of s) bytes m told fault spelled cause.1)) reading.0
    | inr model ↦ says (subst (λ given. IfSome given (λ found. RunsModel s seed m found row_notes begun after end)) rows (model.each m told spelled).1).ends
  ])

  -- one where the run needn't stop: it comes to its end, unless memory was wanting
  pub complete_end : (source : RowSource) (bytes : List ℕ) (m : ModelView) (told : List Note) → row_source s start.folder.files ≡ Some source → model_source s name start.folder.files ≡ Some (Some bytes) → length bytes ≤ most_bytes ModelFile
      → IsModelOf (opts_of s) bytes m told → stop_due s seed m source ≡ None
      → ReadsCalmly s name start.folder after.folder → WritesCalmly s name start.folder after.folder → ¬ (PutFaultsRose start.out after.out) → (status ≡ 0) ⊎ (status ≡ 1)
  complete_end source bytes m told rows at short spelled due stays unwritten unbroken =
      ended (λ n. n ≡ 0)
      (spelled_end _ source bytes m told rows at short spelled (stays kinds.Model, unwritten kinds.Model)
      (whole_end s seed m source row_notes end due (rows_calm stays) (λ e. unbroken (subst (λ x. CountsOut (end_of x) start.out after.out) e ran.leaves.faults))
      (λ e. unwritten kinds.Proof (subst (λ x. CountsWrites s name (end_of x) start.folder after.folder) e ran.leaves.writes))))

  -- one where it must stop
  pub stopped_end : (source : RowSource) (bytes : List ℕ) (m : ModelView) (told : List Note) (stop : Stop) → row_source s start.folder.files ≡ Some source → model_source s name start.folder.files ≡ Some (Some bytes) → length bytes ≤ most_bytes ModelFile
      → IsModelOf (opts_of s) bytes m told → stop_due s seed m source ≡ Some stop → ReadsCalmly s name start.folder after.folder
      → GetsModelCalmly s name start.folder after.folder → (status ≡ status_of stop) ⊎ (status ≡ 1)
  stopped_end source bytes m told stop rows at short spelled due stays gets =
      ended (λ n. n ≡ status_of stop)
      (spelled_end _ source bytes m told rows at short spelled gets (stopped_end_behind s seed m source row_notes end stop due (rows_calm stays)))

  -- one whose row file is missing
  pub missing_rows_end : (bytes : List ℕ) (m : ModelView) (told : List Note) → row_source s start.folder.files ≡ Some (RowsHeld None)
      → model_source s name start.folder.files ≡ Some (Some bytes) → length bytes ≤ most_bytes ModelFile → IsModelOf (opts_of s) bytes m told → limit_due s m ≡ None
      → GetsModelCalmly s name start.folder after.folder → (status ≡ 7) ⊎ (status ≡ 1)
  missing_rows_end bytes m told rows at short spelled within stays =
      ended (λ n. n ≡ 7) (spelled_end _ (RowsHeld None) bytes m told rows at short spelled stays (missing_end_behind s seed m row_notes end within))
