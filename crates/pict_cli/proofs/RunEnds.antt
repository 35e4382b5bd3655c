-- How a run ends, from how its reading and its work on the model ended.
use Rattle.std.proofs.Common.{◌≡◌, ℕ, false, ◌≤◌, length, List, Option, None, Some, Ok, Err, Result, inl, inr, refl, ap, subst, ◌∙◌, arith}
use Rattle.std.specs.Prelude.{◌≢◌, ◌⊎◌, true, IfSome, IsSomeAnd, IsOkAnd}
use Rattle.value_text.proofs.ListLemmas.{one_ok}
use Rattle.outside_io.specs.believed.Seen.{FolderSeen, SinkSeen, KeepsFiles, KeepsReadFaults, KeepsWriteFaults}
use Rattle.cov_model.specs.believed.Sound.{ModelView}
use Rattle.definitions.specs.believed.Limits.{ModelFile, most_bytes}
use Rattle.definitions.specs.believed.Settings.{Settings}
use Rattle.model_lex.specs.declared.note.Note.{Note}
use Rattle.model_lex.specs.declared.options.ModelOpts.{ModelOpts}
use Rattle.refutation.specs.believed.Proofs.{format_of}
use Rattle.refutation.specs.declared.omissions.ProofForm.{ProofForm}
use Rattle.refutation.specs.declared.omissions.ProofForm.TheVariants.{One, Two}
use Rattle.type_check.specs.believed.ModelOf.{IsModelOf}
use Rattle.type_check.proofs.OneAnswer.{files_have_one_model}
use Rattle.command_line.specs.believed.Loading.{IsLoaded}
use Rattle.command_line.specs.Loading.{IsOfReading}
use Rattle.command_line.specs.believed.Told.{end_status}
use Rattle.command_line.specs.believed.Words.{opts_of}
use Rattle.command_line.specs.declared.files.FileKind.{FileKind}
use Rattle.command_line.specs.declared.files.FileKind.TheVariants as kinds
use Rattle.command_line.specs.declared.stop.Stop.{Stop}
use Rattle.command_line.specs.declared.stop.Stop.TheVariants.{OutOfMemory, Spent, BadWord, BadModel, BadConstraint, BadRows, NoResult}
use Rattle.command_line.specs.declared.stop.Stop.TheVariants.{BadResult, CannotRead, CannotWrite, CannotWriteReport, TooMany, TooLong}
use Rattle.pict_cli.specs.declared.options.Opts.{Opts}
use Rattle.pict_cli.specs.believed.Ends.{CountsOut, CountsReads, CountsWrites, End, Misworded, Moment, Stopped, Unanswered, Unprinted, Unread, Unwritten, Whole, end_of}
use Rattle.pict_cli.specs.Ends.{IsEarly, IsQuiet, StaysStill}
use Rattle.pict_cli.specs.believed.Modes.{RowSource, is_report, mode_beside, mode_in, mode_of, model_source, output_of, prints_rows, row_source}
use Rattle.pict_cli.specs.Modes.{makes_suite}
use Rattle.pict_cli.specs.Options.{settings_seen}
use Rattle.pict_cli.specs.believed.Runs.{Ends, HasModel, HoldsWholeProof, IsStatus, PrintsSuite, RunsModel, SpellsModel, rows_of_run, told_proof}
use Rattle.pict_cli.specs.Steps.{Ran}
use Rattle.pict_cli.proofs.FromModel.{from_model}
use Rattle.pict_cli.proofs.Headline.{holds_whole_proof, prints_suite}

-- what holds of one model that the bytes spell holds of each
pub spells_model : (opts : ModelOpts) (P : ModelView → List Note → Type 0) (bytes : List ℕ) (m : ModelView) (notes : List Note)
    → length bytes ≤ most_bytes ModelFile → IsModelOf opts bytes m notes → P m notes → SpellsModel opts P bytes
spells_model opts P bytes m notes short spelled holds = record {
  within = short;
  model = m;
  notes = notes;
  spelled = spelled;
  each = λ other noted told.
      let same = files_have_one_model opts bytes m other notes noted spelled told in
      subst (λ list. P other list) same.1 (subst (λ found. P found notes) same.0 holds);
}

-- what follows of a model
pub model_then : (opts : ModelOpts) (held : Option (List ℕ)) (P Q : ModelView → List Note → Type 0)
    → ((m : ModelView) (notes : List Note) → P m notes → Q m notes) → HasModel opts held P → HasModel opts held Q
model_then opts None P Q then none = none
model_then opts (Some bytes) P Q then has = record {
  within = has.within;
  model = has.model;
  notes = has.notes;
  spelled = has.spelled;
  each = λ m notes told. then m notes (has.each m notes told);
}

-- how a run ends whose model was read
pub ends_loaded : (s : Settings) (seed : ℕ) (held : Option (List ℕ)) (rows : Option RowSource) (m : ModelView) (notes row_notes : List Note) (before after : Moment) (end : Result (Unit {0}) Stop)
    → IsLoaded (opts_of s) held m notes → IfSome rows (λ source. RunsModel s seed m source row_notes before after end) → Ends s seed held rows notes row_notes before after end
ends_loaded s seed None rows m notes row_notes before after end loaded runs = absurd loaded
ends_loaded s seed (Some bytes) rows m notes row_notes before after end loaded runs =
    inr (spells_model (opts_of s) _ bytes m notes loaded.0 loaded.1 (refl, runs))

-- the end of a reading of the model file that stopped
pub reading_ends : (stop : Stop) → IsOfReading kinds.Model stop → (stop ≡ (CannotRead kinds.Model)) ⊎ (end_of (Err stop) ≡ Stopped)
reading_ends OutOfMemory of = inr refl
reading_ends (Spent budget question) of = absurd (of.questions budget question refl)
reading_ends (BadWord index) of = absurd (of.words index refl)
reading_ends (BadModel diag) of = inr refl
reading_ends (BadConstraint diag) of = inr refl
reading_ends (BadRows fault) of = inr refl
reading_ends NoResult of = inr refl
reading_ends (BadResult line) of = inr refl
reading_ends (CannotRead kind) of = inl (ap CannotRead (of.read kind refl))
reading_ends (CannotWrite kind) of = absurd (of.writes kind refl)
reading_ends CannotWriteReport of = absurd (of.report refl)
reading_ends (TooMany quantity count) of = inr refl
reading_ends (TooLong kind) of = inr refl

-- what a status tells of the end
pub zero_is_end : (end : Result (Unit {0}) Stop) → end_status end ≡ 0 → end ≡ Ok tt
zero_is_end (Ok done) h = refl
zero_is_end (Err OutOfMemory) h = absurd (omega (arith, h))
zero_is_end (Err (Spent budget question)) h = absurd (omega (arith, h))
zero_is_end (Err (BadWord index)) h = absurd (omega (arith, h))
zero_is_end (Err (BadModel diag)) h = absurd (omega (arith, h))
zero_is_end (Err (BadConstraint diag)) h = absurd (omega (arith, h))
zero_is_end (Err (BadRows fault)) h = absurd (omega (arith, h))
zero_is_end (Err NoResult) h = absurd (omega (arith, h))
zero_is_end (Err (BadResult line)) h = absurd (omega (arith, h))
zero_is_end (Err (CannotRead kind)) h = absurd (omega (arith, h))
zero_is_end (Err (CannotWrite kind)) h = absurd (omega (arith, h))
zero_is_end (Err CannotWriteReport) h = absurd (omega (arith, h))
zero_is_end (Err (TooMany quantity count)) h = absurd (omega (arith, h))
zero_is_end (Err (TooLong kind)) h = absurd (omega (arith, h))

pub seven_is_end : (end : Result (Unit {0}) Stop) → end_status end ≡ 7 → (kind : FileKind) × (end_of end ≡ Unread kind)
seven_is_end (Ok done) h = absurd (omega (arith, h))
seven_is_end (Err OutOfMemory) h = absurd (omega (arith, h))
seven_is_end (Err (Spent budget question)) h = absurd (omega (arith, h))
seven_is_end (Err (BadWord index)) h = absurd (omega (arith, h))
seven_is_end (Err (BadModel diag)) h = absurd (omega (arith, h))
seven_is_end (Err (BadConstraint diag)) h = absurd (omega (arith, h))
seven_is_end (Err (BadRows fault)) h = absurd (omega (arith, h))
seven_is_end (Err NoResult) h = absurd (omega (arith, h))
seven_is_end (Err (BadResult line)) h = absurd (omega (arith, h))
seven_is_end (Err (CannotRead kind)) h = (kind, refl)
seven_is_end (Err (CannotWrite kind)) h = absurd (omega (arith, h))
seven_is_end (Err CannotWriteReport) h = absurd (omega (arith, h))
seven_is_end (Err (TooMany quantity count)) h = absurd (omega (arith, h))
seven_is_end (Err (TooLong kind)) h = absurd (omega (arith, h))

pub eight_is_end : (end : Result (Unit {0}) Stop) → end_status end ≡ 8 → (end_of end ≡ Unprinted) ⊎ ((kind : FileKind) × (end_of end ≡ Unwritten kind))
eight_is_end (Ok done) h = absurd (omega (arith, h))
eight_is_end (Err OutOfMemory) h = absurd (omega (arith, h))
eight_is_end (Err (Spent budget question)) h = absurd (omega (arith, h))
eight_is_end (Err (BadWord index)) h = absurd (omega (arith, h))
eight_is_end (Err (BadModel diag)) h = absurd (omega (arith, h))
eight_is_end (Err (BadConstraint diag)) h = absurd (omega (arith, h))
eight_is_end (Err (BadRows fault)) h = absurd (omega (arith, h))
eight_is_end (Err NoResult) h = absurd (omega (arith, h))
eight_is_end (Err (BadResult line)) h = absurd (omega (arith, h))
eight_is_end (Err (CannotRead kind)) h = absurd (omega (arith, h))
eight_is_end (Err (CannotWrite kind)) h = inr (kind, refl)
eight_is_end (Err CannotWriteReport) h = inl refl
eight_is_end (Err (TooMany quantity count)) h = absurd (omega (arith, h))
eight_is_end (Err (TooLong kind)) h = absurd (omega (arith, h))

pub not_three : (end : Result (Unit {0}) Stop) → end_of end ≢ Misworded → end_status end ≢ 3
not_three (Ok done) worded h = absurd (omega (arith, h))
not_three (Err OutOfMemory) worded h = absurd (omega (arith, h))
not_three (Err (Spent budget question)) worded h = absurd (omega (arith, h))
not_three (Err (BadWord index)) worded h = absurd (worded refl)
not_three (Err (BadModel diag)) worded h = absurd (omega (arith, h))
not_three (Err (BadConstraint diag)) worded h = absurd (omega (arith, h))
not_three (Err (BadRows fault)) worded h = absurd (omega (arith, h))
not_three (Err NoResult) worded h = absurd (omega (arith, h))
not_three (Err (BadResult line)) worded h = absurd (omega (arith, h))
not_three (Err (CannotRead kind)) worded h = absurd (omega (arith, h))
not_three (Err (CannotWrite kind)) worded h = absurd (omega (arith, h))
not_three (Err CannotWriteReport) worded h = absurd (omega (arith, h))
not_three (Err (TooMany quantity count)) worded h = absurd (omega (arith, h))
not_three (Err (TooLong kind)) worded h = absurd (omega (arith, h))

pub not_two : (end : Result (Unit {0}) Stop) → end_of end ≢ Unanswered → end_status end ≢ 2
not_two (Ok done) answered h = absurd (omega (arith, h))
not_two (Err OutOfMemory) answered h = absurd (omega (arith, h))
not_two (Err (Spent budget question)) answered h = absurd (answered refl)
not_two (Err (BadWord index)) answered h = absurd (omega (arith, h))
not_two (Err (BadModel diag)) answered h = absurd (omega (arith, h))
not_two (Err (BadConstraint diag)) answered h = absurd (omega (arith, h))
not_two (Err (BadRows fault)) answered h = absurd (omega (arith, h))
not_two (Err NoResult) answered h = absurd (omega (arith, h))
not_two (Err (BadResult line)) answered h = absurd (omega (arith, h))
not_two (Err (CannotRead kind)) answered h = absurd (omega (arith, h))
not_two (Err (CannotWrite kind)) answered h = absurd (omega (arith, h))
not_two (Err CannotWriteReport) answered h = absurd (omega (arith, h))
not_two (Err (TooMany quantity count)) answered h = absurd (omega (arith, h))
not_two (Err (TooLong kind)) answered h = absurd (omega (arith, h))

-- the statuses of runs
pub status_known : (end : Result (Unit {0}) Stop) → IsStatus (end_status end)
status_known (Ok done) = refl
status_known (Err OutOfMemory) = refl
status_known (Err (Spent budget question)) = refl
status_known (Err (BadWord index)) = refl
status_known (Err (BadModel diag)) = refl
status_known (Err (BadConstraint diag)) = refl
status_known (Err (BadRows fault)) = refl
status_known (Err NoResult) = refl
status_known (Err (BadResult line)) = refl
status_known (Err (CannotRead kind)) = refl
status_known (Err (CannotWrite kind)) = refl
status_known (Err CannotWriteReport) = refl
status_known (Err (TooMany quantity count)) = refl
status_known (Err (TooLong kind)) = refl

-- with another status nothing is printed or written
pub untouched_end : (end : Result (Unit {0}) Stop) → end_status end ≢ 0 → end_status end ≢ 8 → end_of end ≢ Misworded → IsEarly (end_of end)
untouched_end (Ok done) zero eight worded = absurd (zero refl)
untouched_end (Err OutOfMemory) zero eight worded = tt
untouched_end (Err (Spent budget question)) zero eight worded = tt
untouched_end (Err (BadWord index)) zero eight worded = absurd (worded refl)
untouched_end (Err (BadModel diag)) zero eight worded = tt
untouched_end (Err (BadConstraint diag)) zero eight worded = tt
untouched_end (Err (BadRows fault)) zero eight worded = tt
untouched_end (Err NoResult) zero eight worded = tt
untouched_end (Err (BadResult line)) zero eight worded = tt
untouched_end (Err (CannotRead kind)) zero eight worded = tt
untouched_end (Err (CannotWrite kind)) zero eight worded = absurd (eight refl)
untouched_end (Err CannotWriteReport) zero eight worded = absurd (eight refl)
untouched_end (Err (TooMany quantity count)) zero eight worded = tt
untouched_end (Err (TooLong kind)) zero eight worded = tt

pub unwritten_end : (s : Settings) (name : List ℕ) (end : Result (Unit {0}) Stop) (before after : FolderSeen) → end_status end ≢ 8 → CountsWrites s name (end_of end) before after
    → KeepsWriteFaults before after
unwritten_end s name (Ok done) before after eight counts = counts
unwritten_end s name (Err OutOfMemory) before after eight counts = counts
unwritten_end s name (Err (Spent budget question)) before after eight counts = counts
unwritten_end s name (Err (BadWord index)) before after eight counts = counts
unwritten_end s name (Err (BadModel diag)) before after eight counts = counts
unwritten_end s name (Err (BadConstraint diag)) before after eight counts = counts
unwritten_end s name (Err (BadRows fault)) before after eight counts = counts
unwritten_end s name (Err NoResult) before after eight counts = counts
unwritten_end s name (Err (BadResult line)) before after eight counts = counts
unwritten_end s name (Err (CannotRead kind)) before after eight counts = counts
unwritten_end s name (Err (CannotWrite kind)) before after eight counts = absurd (eight refl)
unwritten_end s name (Err CannotWriteReport) before after eight counts = counts
unwritten_end s name (Err (TooMany quantity count)) before after eight counts = counts
unwritten_end s name (Err (TooLong kind)) before after eight counts = counts

pub calm_end : (s : Settings) (name : List ℕ) (end : Result (Unit {0}) Stop) (before after : FolderSeen) → end_status end ≢ 7 → CountsReads s name (end_of end) before after
    → KeepsReadFaults before after
calm_end s name (Ok done) before after seven counts = counts
calm_end s name (Err OutOfMemory) before after seven counts = counts
calm_end s name (Err (Spent budget question)) before after seven counts = counts
calm_end s name (Err (BadWord index)) before after seven counts = counts
calm_end s name (Err (BadModel diag)) before after seven counts = counts
calm_end s name (Err (BadConstraint diag)) before after seven counts = counts
calm_end s name (Err (BadRows fault)) before after seven counts = counts
calm_end s name (Err NoResult) before after seven counts = counts
calm_end s name (Err (BadResult line)) before after seven counts = counts
calm_end s name (Err (CannotRead kind)) before after seven counts = absurd (seven refl)
calm_end s name (Err (CannotWrite kind)) before after seven counts = counts
calm_end s name (Err CannotWriteReport) before after seven counts = counts
calm_end s name (Err (TooMany quantity count)) before after seven counts = counts
calm_end s name (Err (TooLong kind)) before after seven counts = counts

pub unbroken_end : (end : Result (Unit {0}) Stop) (before after : SinkSeen) → end_status end ≢ 8 → CountsOut (end_of end) before after → after.faults ≡ before.faults
unbroken_end (Ok done) before after eight counts = counts
unbroken_end (Err OutOfMemory) before after eight counts = counts
unbroken_end (Err (Spent budget question)) before after eight counts = counts
unbroken_end (Err (BadWord index)) before after eight counts = counts
unbroken_end (Err (BadModel diag)) before after eight counts = counts
unbroken_end (Err (BadConstraint diag)) before after eight counts = counts
unbroken_end (Err (BadRows fault)) before after eight counts = counts
unbroken_end (Err NoResult) before after eight counts = counts
unbroken_end (Err (BadResult line)) before after eight counts = counts
unbroken_end (Err (CannotRead kind)) before after eight counts = counts
unbroken_end (Err (CannotWrite kind)) before after eight counts = absurd (eight refl)
unbroken_end (Err CannotWriteReport) before after eight counts = absurd (eight refl)
unbroken_end (Err (TooMany quantity count)) before after eight counts = counts
unbroken_end (Err (TooLong kind)) before after eight counts = counts

pub quiet_of : (end : End) (out after : SinkSeen) → IsEarly end → IsQuiet end out after → after ≡ out
quiet_of Whole out after early quiet = absurd early
quiet_of (Unread kind) out after early quiet = quiet
quiet_of (Unwritten kind) out after early quiet = absurd early
quiet_of Unprinted out after early quiet = absurd early
quiet_of Misworded out after early quiet = absurd early
quiet_of Unanswered out after early quiet = quiet
quiet_of Stopped out after early quiet = quiet

pub still_of : (end : End) (before after : FolderSeen) → IsEarly end → StaysStill end before after → KeepsFiles before after
still_of Whole before after early still = absurd early
still_of (Unread kind) before after early still = still
still_of (Unwritten kind) before after early still = absurd early
still_of Unprinted before after early still = absurd early
still_of Misworded before after early still = absurd early
still_of Unanswered before after early still = still
still_of Stopped before after early still = still

-- the format that is asked for is 1 or 2
pub a_form : (form : ProofForm) → (format_of form ≡ 1) ⊎ (format_of form ≡ 2)
a_form One = inl refl
a_form Two = inr refl

pub form_known : (o : Opts) (s : Settings) → settings_seen o ≡ s → (s.form ≡ 1) ⊎ (s.form ≡ 2)
form_known o s same = subst (λ t. (t.form ≡ 1) ⊎ (t.form ≡ 2)) same (a_form o.form)

-- a run ended for the settings and the name that are asked for
pub ran_asked : {asked : Result Settings ℕ} {s other : Settings} {seed : ℕ} {name model : List ℕ} {before after : Moment} {notes row_notes : List Note}
    {end : Result (Unit {0}) Stop}
    → asked ≡ Ok s → asked ≡ Ok other → name ≡ model → Ran s seed name before after notes row_notes end → Ran other seed model before after notes row_notes end
ran_asked {asked} {s} {other} {seed} {name} {model} {before} {after} {notes} {row_notes} {end} e f same ran =
    subst (λ n. Ran other seed n before after notes row_notes end) same (subst (λ t. Ran t seed name before after notes row_notes end) (one_ok e f) ran)

module _ {s : Settings} {seed : ℕ} {name : List ℕ} {start after : Moment} {notes row_notes : List Note} {end : Result (Unit {0}) Stop}
    (ran : Ran s seed name start after notes row_notes end) (held : Option (List ℕ)) (source : RowSource)
    (at : model_source s name start.folder.files ≡ Some held) (rows : row_source s start.folder.files ≡ Some source) where
  -- a run came to its end: what follows for its model, from the moment at which the run went on with it
  whole : (P : ModelView → Type 0) → ((begun : Moment) → begun.out ≡ start.out → (m : ModelView) → RunsModel s seed m source row_notes begun after (Ok tt) → P m)
      → end_status end ≡ 0 → HasModel (opts_of s) held (λ m noted. P m)
  whole P says zero =
      from_model s.make name (λ begun. Ends s seed held (row_source s start.folder.files) notes row_notes begun after end) notes row_notes start after end _
      (λ begun same goes. ended begun same (subst (Ends s seed held (Some source) notes row_notes begun after) is
      (subst (λ told. Ends s seed held told notes row_notes begun after end) rows goes)))
      (λ memory. let no : ⊥ = cc in absurd no) (λ fault. let no : ⊥ = cc in absurd no) (ran.ends held at)
    where
      is : end ≡ Ok tt
      is = zero_is_end end zero

      ended : (begun : Moment) → begun.out ≡ start.out → Ends s seed held (Some source) notes row_notes begun after (Ok tt) → HasModel (opts_of s) held (λ m noted. P m)
      ended begun same (inl reading) = absurd reading.0
      ended begun same (inr model) = model_then (opts_of s) held _ _ (λ m noted holds. says begun same m holds.1) model

  pub covers_whole : (known : (s.form ≡ 1) ⊎ (s.form ≡ 2)) → prints_rows s ≡ true → end_status end ≡ 0
      → HasModel (opts_of s) held (λ m noted. (before : List ℕ) → start.out.written ≡ Some before
      → IsSomeAnd after.out.written (PrintsSuite s m source (told_proof s after.folder.files) before))
  covers_whole known is = whole _ (λ begun same m runs before told.
      prints_suite s seed m source row_notes begun after runs known is before (ap (λ out. out.written) same ∙ told))

  pub proof_whole : (unproved : makes_suite (mode_of s) ≡ false → s.proof ≡ None) (known : (s.form ≡ 1) ⊎ (s.form ≡ 2)) (proof : Option (List ℕ))
      → told_proof s after.folder.files ≡ Some proof → end_status end ≡ 0
      → HasModel (opts_of s) held (λ m noted. HoldsWholeProof s seed m (rows_of_run s m source) proof)
  proof_whole unproved known proof told = whole _ (λ begun same m runs. holds_whole_proof s seed m source row_notes begun after runs unproved known proof told)

-- words that have no reading end with another status
pub asked_or_three : (asked : Result Settings ℕ) (status : ℕ) (P : Settings → Type 0) → ((s : Settings) → asked ≡ Ok s → P s)
    → ((index : ℕ) → asked ≡ Err index → status ≡ 3) → status ≡ 0 → IsOkAnd asked P
asked_or_three (Ok s) status P holds three zero = holds s refl
asked_or_three (Err index) status P holds three zero = absurd (omega (arith, zero, three index refl))

-- a run prints rows of a model file alone
pub prints_of_a_file : (s : Settings) → prints_rows s ≡ true → s.make ≡ None
prints_of_a_file s is = at s.make is
  where
    at : (make : Option ℕ) → is_report (mode_beside make (mode_in s.suspect s.measure (output_of s))) ≡ true → make ≡ None
    at None shown = refl
    at (Some n) shown = let no : ⊥ = cc in absurd no
