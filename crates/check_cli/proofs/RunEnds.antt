-- How a run of the checker ends, and what its status tells of its end.
use Rattle.std.proofs.Common.{◌≡◌, ℕ, true, List, [], ◌∷◌, Option, None, Some, Ok, Err, Result, inl, inr, refl, sym, ap, subst, ◌∙◌, arith}
use Rattle.std.specs.Prelude.{◌≢◌, ◌⊎◌, IfErr, IfOk, IsOkAnd, MatchResult, drop, take}
use Rattle.std.proofs.lemmas.Bool.{false≢true}
use Rattle.std.proofs.lemmas.Option.{none-some, same_Some}
use Rattle.outside_io.specs.declared.answers.WriteAnswer.TheVariants.{Done, Failed}
use Rattle.outside_io.specs.believed.Seen.{SinkSeen}
use Rattle.outside_io.specs.believed.Puts.{Puts}
use Rattle.cov_model.specs.believed.Sound.{ModelView}
use Rattle.definitions.specs.believed.Laws.{IsCertified}
use Rattle.definitions.specs.believed.RowReading as readings
use Rattle.definitions.specs.believed.Settings.{Settings}
use Rattle.definitions.specs.believed.Verdict as defined
use Rattle.definitions.specs.believed.Verdict.{verdict, verdict_text}
use Rattle.definitions.specs.believed.Words.{Command, first_faulty_for_checker, missing_name, read_check_words}
use Rattle.std.specs.Option.{option_or}
use Rattle.definitions.proofs.Certified.{certified}
use Rattle.model_lex.specs.declared.options.ModelOpts.{ModelOpts}
use Rattle.model_lex.specs.declared.fault.ModelFault.{ModelFault}
use Rattle.type_check.specs.believed.ModelOf.{IsRefusalOf}
use Rattle.type_check.proofs.OneAnswer.{files_have_one_model, models_are_not_refused, refusals_are_one}
use Rattle.tuple_index.specs.believed.PlanFault.{limit_passed}
use Rattle.row_text.specs.Readings.{fault_of}
use Rattle.row_text.specs.declared.rows_fault.RowsFault.{RowsFault}
use Rattle.row_text.specs.declared.rows_fault.RowsFault.TheVariants as told_faults
use Rattle.command_line.specs.believed.Stops.{NamesView, status_of, stop_of_model, stop_of_plan}
use Rattle.command_line.specs.Stops.{stop_of_rows}
use Rattle.command_line.specs.believed.Words.{opts_of, settings_in}
use Rattle.command_line.specs.declared.stop.Stop.{Stop}
use Rattle.command_line.specs.declared.stop.Stop.TheVariants.{OutOfMemory, Spent, BadWord, BadModel, BadConstraint, BadRows, NoResult, BadResult, CannotRead}
use Rattle.command_line.specs.declared.stop.Stop.TheVariants.{CannotWrite, CannotWriteReport, TooMany, TooLong}
use Rattle.command_line.specs.declared.files.FileKind.{FileKind}
use Rattle.proof_check.specs.Checks.{IsCheckOf}
use Rattle.proof_check.specs.believed.Checks.{Spells, verdict_given, report_of}
use Rattle.check_cli.specs.RunSteps.{CountsOut, StopsBefore, cannot_read, is_before, is_refused, no_memory, stop_of_check}
use Rattle.check_cli.specs.believed.Runs.{AreRead, Ends, HasReadings, HasVerdict, HeldFiles, Inputs, IsRefusal, FilesAreRefused, IsStatus, IsTold, answer_status}
use Rattle.check_cli.specs.Runs.{answer_text}
use Rattle.check_cli.specs.believed.Runs.{bad_model, bad_report, end_status, inputs_of, stop_of_report, too_many, unread, verdict_status}
use Rattle.check_cli.specs.believed.Words.{asked_by, names_in}
use Rattle.check_cli.specs.Words.{command_seen, names_seen, settings_seen}
use Rattle.proof_check.specs.declared.verdict.Verdict.{Verdict}
use Rattle.proof_check.specs.declared.verdict.Verdict.TheVariants.{Accepted, BadRow, BadProof, BadOmission, Uncovered}
use Rattle.proof_check.specs.declared.verdict.CheckFault.{CheckFault}
use Rattle.proof_check.specs.declared.verdict.CheckFault.TheVariants as check_faults
use Rattle.check_cli.specs.declared.words.CheckOpts.{CheckOpts}
use Rattle.command_line.proofs.OptsLemmas.{same_opts}
use Rattle.command_line.proofs.WordLemmas.{command_read}

-- a verdict as the program has it, and as it is defined
pub text_told : (v : defined.Verdict) → answer_text (verdict_given v) ≡ verdict_text v
text_told (defined.Accepted rows omissions) = refl
text_told (defined.BadRow line) = refl
text_told (defined.BadProof line) = refl
text_told (defined.BadOmission line) = refl
text_told (defined.Uncovered tuple) = refl

status_told : (v : defined.Verdict) → answer_status (verdict_given v) ≡ verdict_status v
status_told (defined.Accepted rows omissions) = refl
status_told (defined.BadRow line) = refl
status_told (defined.BadProof line) = refl
status_told (defined.BadOmission line) = refl
status_told (defined.Uncovered tuple) = refl

accepted_zero : (v : defined.Verdict) → verdict_status v ≡ 0 → (rows : ℕ) × (omissions : ℕ) × (v ≡ defined.Accepted rows omissions)
accepted_zero (defined.Accepted rows omissions) zero = (rows, omissions, refl)
accepted_zero (defined.BadRow line) zero = absurd (omega (arith, zero))
accepted_zero (defined.BadProof line) zero = absurd (omega (arith, zero))
accepted_zero (defined.BadOmission line) zero = absurd (omega (arith, zero))
accepted_zero (defined.Uncovered tuple) zero = absurd (omega (arith, zero))

-- why a check of files that were read ends without a verdict
pub same_report : (fault : RowsFault) (given : readings.RowsFault) → fault_of fault ≡ Some given → stop_of_rows fault ≡ stop_of_report given
same_report told_faults.NoHeader given is = ap stop_of_report (same_Some readings.NoHeader given is)
same_report (told_faults.Twice line) given is = ap stop_of_report (same_Some (readings.Twice line) given is)
same_report (told_faults.Missing p) given is = ap stop_of_report (same_Some (readings.Missing p) given is)
same_report (told_faults.TooManyRows count) given is = ap stop_of_report (same_Some (readings.TooManyRows count) given is)
same_report (told_faults.Width line) given is = ap stop_of_report (same_Some (readings.Width line) given is)
same_report told_faults.NoMemory given is = absurd (none-some given is)

pub check_stops : (opts : ModelOpts) (held : HeldFiles) (inputs : Inputs) (fault : CheckFault) (stop : Stop) → inputs_of held ≡ Ok inputs
    → IsCheckOf opts inputs.model inputs.report inputs.proof (Err fault) → stop ≡ stop_of_check fault → StopsBefore opts held stop
check_stops opts held inputs (check_faults.BadModel fault) stop read refusal is = is_refused (bad_model inputs fault read refusal.0 is)
check_stops opts held inputs (check_faults.Limits fault) stop read (m, spelled, passed) is = is_refused (too_many inputs m fault read spelled passed is)
check_stops opts held inputs (check_faults.Report fault) stop read (m, spelled, within, given, same, refused) is =
    is_refused (bad_report inputs m given read spelled within refused (is ∙ same_report fault given same))
check_stops opts held inputs check_faults.NoMemory stop read nothing is = no_memory is

-- a run that stops before anything is written
only_refused : {opts : ModelOpts} {held : HeldFiles} {stop : Stop} → stop ≢ OutOfMemory → ((kind : FileKind) → stop ≢ CannotRead kind)
    → StopsBefore opts held stop → FilesAreRefused opts held stop
only_refused room folder (no_memory is) = absurd (room is)
only_refused room folder (cannot_read kind is) = absurd (folder kind is)
only_refused room folder (is_refused why) = why

pub stopped_ends : (opts : ModelOpts) (held : HeldFiles) (out : SinkSeen) (stop : Stop) → is_before stop ≡ true → StopsBefore opts held stop
    → Ends opts held out out (Err stop)
stopped_ends opts held out OutOfMemory before why = refl
stopped_ends opts held out (CannotRead kind) before why = refl
stopped_ends opts held out CannotWriteReport before why = absurd (false≢true before)
stopped_ends opts held out (Spent budget question) before why = absurd (false≢true before)
stopped_ends opts held out (BadWord index) before why = absurd (false≢true before)
stopped_ends opts held out (CannotWrite kind) before why = absurd (false≢true before)
stopped_ends opts held out (BadModel diag) before why = (only_refused (λ e. cc) (λ kind e. cc) why, refl)
stopped_ends opts held out (BadConstraint diag) before why = (only_refused (λ e. cc) (λ kind e. cc) why, refl)
stopped_ends opts held out (BadRows fault) before why = (only_refused (λ e. cc) (λ kind e. cc) why, refl)
stopped_ends opts held out NoResult before why = (only_refused (λ e. cc) (λ kind e. cc) why, refl)
stopped_ends opts held out (BadResult line) before why = (only_refused (λ e. cc) (λ kind e. cc) why, refl)
stopped_ends opts held out (TooMany quantity count) before why = (only_refused (λ e. cc) (λ kind e. cc) why, refl)
stopped_ends opts held out (TooLong kind) before why = (only_refused (λ e. cc) (λ kind e. cc) why, refl)

-- what follows of readings
pub readings_then : {opts : ModelOpts} {held : HeldFiles} {P Q : ModelView → List (ℕ × List (Option ℕ)) → List ℕ → Type 0}
    → ((m : ModelView) (lines : List (ℕ × List (Option ℕ))) (proof : List ℕ) → P m lines proof → Q m lines proof)
    → HasReadings opts P held → HasReadings opts Q held
readings_then then has = record {
  inputs = has.inputs;
  read = has.read;
  model = has.model;
  spelled = has.spelled;
  within = has.within;
  report = has.report;
  reported = has.reported;
  holds = then has.model has.report.rows has.inputs.proof has.holds;
}

-- a verdict's line was written, whole or in part
pub printed_ends : (opts : ModelOpts) (held : HeldFiles) (before after : SinkSeen) (given : Verdict) (end : Result Verdict Stop)
    → HasReadings opts (λ m lines proof. given ≡ verdict_given (verdict m lines proof)) held
    → MatchResult end (λ same. (same ≡ given) × Puts Done before after (answer_text given))
    (λ stop. (stop ≡ CannotWriteReport) × Puts Failed before after (answer_text given))
    → Ends opts held before after end
printed_ends opts held before after given (Ok same) has puts =
    readings_then (λ m lines proof is. (puts.0 ∙ is, subst (Puts Done before after) (ap answer_text is ∙ text_told (verdict m lines proof)) puts.1)) has
printed_ends opts held before after given (Err stop) has puts =
    subst (λ s. Ends opts held before after (Err s)) (sym puts.0)
    (readings_then (λ m lines proof is. subst (Puts Failed before after) (ap answer_text is ∙ text_told (verdict m lines proof)) puts.1) has)

-- files have one reading, or one refusal
same_inputs : (held : HeldFiles) {a b : Inputs} → inputs_of held ≡ Ok a → inputs_of held ≡ Ok b → a ≡ b
same_inputs held e f = cc

unread_inputs : (held : HeldFiles) {stop : Stop} {inputs : Inputs} → inputs_of held ≡ Err stop → inputs_of held ≡ Ok inputs → ⊥
unread_inputs held e f = cc

module _ (opts : ModelOpts) (held : HeldFiles) where
  same_model : {a b : Inputs} {m n : ModelView} → inputs_of held ≡ Ok a → inputs_of held ≡ Ok b → Spells opts a.model m → Spells opts b.model n → m ≡ n
  same_model {a} {b} {m} {n} e f spelled also =
      let moved = subst (λ inputs. Spells opts inputs.model m) (same_inputs held e f) spelled in
      (files_have_one_model opts b.model m n moved.0 also.0 moved.1 also.1).0

  not_refused : {a b : Inputs} {m : ModelView} {fault : ModelFault} → inputs_of held ≡ Ok a → inputs_of held ≡ Ok b → Spells opts a.model m
      → IsRefusalOf opts b.model fault → ⊥
  not_refused {a} {b} {m} {fault} e f spelled refusal =
      let moved = subst (λ inputs. Spells opts inputs.model m) (same_inputs held e f) spelled in
      models_are_not_refused opts b.model m moved.0 fault moved.1 refusal

  within_passes : {a b : Inputs} {m n : ModelView} {fault : _} → inputs_of held ≡ Ok a → inputs_of held ≡ Ok b → Spells opts a.model m
      → Spells opts b.model n → limit_passed m ≡ None → limit_passed n ≡ Some fault → ⊥
  within_passes {fault = fault} e f spelled also within passed =
      none-some fault (sym within ∙ ap limit_passed (same_model e f spelled also) ∙ passed)

  same_reading : {a b : Inputs} {m n : ModelView} → inputs_of held ≡ Ok a → inputs_of held ≡ Ok b → Spells opts a.model m → Spells opts b.model n
      → report_of m a.report ≡ report_of n b.report
  same_reading {a} {b} {m} e f spelled also =
      ap (λ inputs. report_of m inputs.report) (same_inputs held e f) ∙ ap (λ model. report_of model b.report) (same_model e f spelled also)

  pub not_both : {stop : Stop} {P : ModelView → List (ℕ × List (Option ℕ)) → List ℕ → Type 0} → HasReadings opts P held → FilesAreRefused opts held stop → ⊥
  not_both has (unread e) = unread_inputs held e has.read
  not_both has (bad_model inputs fault read refusal is) = not_refused has.read read has.spelled refusal
  not_both has (too_many inputs m fault read spelled passed is) = within_passes has.read read has.spelled spelled has.within passed
  not_both has (bad_report inputs m fault read spelled within refused is) =
      let same = same_reading has.read read has.spelled spelled in
      let reported = has.reported in cc

  pub one_refusal : {stop other : Stop} → FilesAreRefused opts held stop → FilesAreRefused opts held other → stop ≡ other
  one_refusal (unread e) (unread f) = cc
  one_refusal (unread e) (bad_model inputs fault read refusal is) = absurd (unread_inputs held e read)
  one_refusal (unread e) (too_many inputs m fault read spelled passed is) = absurd (unread_inputs held e read)
  one_refusal (unread e) (bad_report inputs m fault read spelled within refused is) = absurd (unread_inputs held e read)
  one_refusal (bad_model inputs fault read refusal is) (unread e) = absurd (unread_inputs held e read)
  one_refusal (bad_model inputs fault read refusal is) (bad_model inputs' fault' read' refusal' is') =
      is ∙ ap stop_of_model (refusals_are_one opts inputs'.model fault fault'
      (subst (λ i. IsRefusalOf opts i.model fault) (same_inputs held read read') refusal) refusal') ∙ sym is'
  one_refusal (bad_model inputs fault read refusal is) (too_many inputs' m fault' read' spelled passed is') = absurd (not_refused read' read spelled refusal)
  one_refusal (bad_model inputs fault read refusal is) (bad_report inputs' m fault' read' spelled within refused is') =
      absurd (not_refused read' read spelled refusal)
  one_refusal (too_many inputs m fault read spelled passed is) (unread e) = absurd (unread_inputs held e read)
  one_refusal (too_many inputs m fault read spelled passed is) (bad_model inputs' fault' read' refusal is') = absurd (not_refused read read' spelled refusal)
  one_refusal (too_many inputs m fault read spelled passed is) (too_many inputs' m' fault' read' spelled' passed' is') =
      is ∙ ap stop_of_plan (same_Some fault fault' (sym passed ∙ ap limit_passed (same_model read read' spelled spelled') ∙ passed')) ∙ sym is'
  one_refusal (too_many inputs m fault read spelled passed is) (bad_report inputs' m' fault' read' spelled' within refused is') =
      absurd (within_passes read' read spelled' spelled within passed)
  one_refusal (bad_report inputs m fault read spelled within refused is) (unread e) = absurd (unread_inputs held e read)
  one_refusal (bad_report inputs m fault read spelled within refused is) (bad_model inputs' fault' read' refusal is') =
      absurd (not_refused read read' spelled refusal)
  one_refusal (bad_report inputs m fault read spelled within refused is) (too_many inputs' m' fault' read' spelled' passed is') =
      absurd (within_passes read read' spelled spelled' within passed)
  one_refusal (bad_report inputs m fault read spelled within refused is) (bad_report inputs' m' fault' read' spelled' within' refused' is') =
      let same = same_reading read read' spelled spelled' in
      let fault_same : fault ≡ fault' = cc in
      is ∙ ap stop_of_report fault_same ∙ sym is'

-- what a status tells of the end
answer_known : (given : Verdict) → HasVerdict (answer_status given)
answer_known (Accepted rows omissions) = refl
answer_known (BadRow line) = refl
answer_known (BadProof line) = refl
answer_known (BadOmission line) = refl
answer_known (Uncovered pairs) = refl

no_verdict : (stop : Stop) → HasVerdict (status_of stop) → ⊥
no_verdict OutOfMemory h = false≢true h
no_verdict (Spent budget question) h = false≢true h
no_verdict (BadWord index) h = false≢true h
no_verdict (BadModel diag) h = false≢true h
no_verdict (BadConstraint diag) h = false≢true h
no_verdict (BadRows fault) h = false≢true h
no_verdict NoResult h = false≢true h
no_verdict (BadResult line) h = false≢true h
no_verdict (CannotRead kind) h = false≢true h
no_verdict (CannotWrite kind) h = false≢true h
no_verdict CannotWriteReport h = false≢true h
no_verdict (TooMany quantity count) h = false≢true h
no_verdict (TooLong kind) h = false≢true h

answer_not : (given : Verdict) (n : ℕ) → answer_status given ≡ n → HasVerdict n
answer_not given n is = subst HasVerdict is (answer_known given)

-- no stop of the words, of the search or of files comes
abbrev pub IsOfCheck : Stop → SinkSeen → SinkSeen → Type 0
IsOfCheck stop before after = stop ≢ CannotWriteReport → (is_before stop ≡ true) × (after ≡ before)

module _ (before after : SinkSeen) where
  pub eight_is_end : (end : Result Verdict Stop) → IfErr end (λ stop. IsOfCheck stop before after) → end_status end ≡ 8 → end ≡ Err CannotWriteReport
  eight_is_end (Ok given) of h = absurd (false≢true (answer_not given 8 h))
  eight_is_end (Err OutOfMemory) of h = absurd (omega (arith, h))
  eight_is_end (Err (Spent budget question)) of h = absurd (omega (arith, h))
  eight_is_end (Err (BadWord index)) of h = absurd (omega (arith, h))
  eight_is_end (Err (BadModel diag)) of h = absurd (omega (arith, h))
  eight_is_end (Err (BadConstraint diag)) of h = absurd (omega (arith, h))
  eight_is_end (Err (BadRows fault)) of h = absurd (omega (arith, h))
  eight_is_end (Err NoResult) of h = absurd (omega (arith, h))
  eight_is_end (Err (BadResult line)) of h = absurd (omega (arith, h))
  eight_is_end (Err (CannotRead kind)) of h = absurd (omega (arith, h))
  eight_is_end (Err (CannotWrite kind)) of h = absurd (false≢true (of (λ e. cc)).0)
  eight_is_end (Err CannotWriteReport) of h = refl
  eight_is_end (Err (TooMany quantity count)) of h = absurd (omega (arith, h))
  eight_is_end (Err (TooLong kind)) of h = absurd (omega (arith, h))

module _ (opts : ModelOpts) (held : HeldFiles) (before after : SinkSeen) where
  pub verdict_told : (end : Result Verdict Stop) (status : ℕ) → status ≡ end_status end → HasVerdict status → Ends opts held before after end
      → HasReadings opts (λ m lines proof. IsTold before after status (verdict m lines proof)) held
  verdict_told (Ok given) status is known ends =
      readings_then (λ m lines proof both. (is ∙ ap answer_status both.0 ∙ status_told (verdict m lines proof), both.1)) ends
  verdict_told (Err stop) status is known ends = absurd (no_verdict stop (subst HasVerdict is known))

  pub accepted_told : (end : Result Verdict Stop) (status : ℕ) → status ≡ end_status end → status ≡ 0 → Ends opts held before after end
      → HasReadings opts IsCertified held
  accepted_told end status is zero ends =
      readings_then (λ m lines proof both. certified m lines proof (accepted_zero (verdict m lines proof) (sym both.0 ∙ zero)))
      (verdict_told end status is (subst HasVerdict (sym zero) refl) ends)

  pub broken_told : (end : Result Verdict Stop) → IfErr end (λ stop. IsOfCheck stop before after) → end_status end ≡ 8 → Ends opts held before after end
      → HasReadings opts (λ m lines proof. Puts Failed before after (verdict_text (verdict m lines proof))) held
  broken_told end of h ends = subst (Ends opts held before after) (eight_is_end before after end of h) ends

  -- files that have their readings: their verdict comes, unless memory was wanting
  pub complete_end : (end : Result Verdict Stop) → AreRead opts held → ((kind : FileKind) → end ≢ Err (CannotRead kind)) → end ≢ Err CannotWriteReport
      → Ends opts held before after end
      → HasReadings opts (λ m lines proof. (end_status end ≡ verdict_status (verdict m lines proof)) ⊎ (end_status end ≡ 1)) held
  complete_end (Ok given) read folder out ends =
      readings_then (λ m lines proof both. inl (ap answer_status both.0 ∙ status_told (verdict m lines proof))) ends
  complete_end (Err OutOfMemory) read folder out ends = readings_then (λ m lines proof done. inr refl) read
  complete_end (Err (CannotRead kind)) read folder out ends = absurd (folder kind refl)
  complete_end (Err CannotWriteReport) read folder out ends = absurd (out refl)
  complete_end (Err (Spent budget question)) read folder out ends = absurd (not_both opts held read ends.0)
  complete_end (Err (BadWord index)) read folder out ends = absurd (not_both opts held read ends.0)
  complete_end (Err (BadModel diag)) read folder out ends = absurd (not_both opts held read ends.0)
  complete_end (Err (BadConstraint diag)) read folder out ends = absurd (not_both opts held read ends.0)
  complete_end (Err (BadRows fault)) read folder out ends = absurd (not_both opts held read ends.0)
  complete_end (Err NoResult) read folder out ends = absurd (not_both opts held read ends.0)
  complete_end (Err (BadResult line)) read folder out ends = absurd (not_both opts held read ends.0)
  complete_end (Err (CannotWrite kind)) read folder out ends = absurd (not_both opts held read ends.0)
  complete_end (Err (TooMany quantity count)) read folder out ends = absurd (not_both opts held read ends.0)
  complete_end (Err (TooLong kind)) read folder out ends = absurd (not_both opts held read ends.0)

  -- files that have none: the status of the first cause, unless memory was wanting or the folder failed
  pub refused_end : {stop : Stop} (end : Result Verdict Stop) → FilesAreRefused opts held stop → Ends opts held before after end
      → (end_status end ≡ status_of stop) ⊎ ((end_status end ≡ 1) ⊎ ((kind : FileKind) × (end ≡ Err (CannotRead kind))))
  refused_end (Ok given) why ends = absurd (not_both opts held ends why)
  refused_end (Err OutOfMemory) why ends = inr (inl refl)
  refused_end (Err (CannotRead kind)) why ends = inr (inr (kind, refl))
  refused_end (Err CannotWriteReport) why ends = absurd (not_both opts held ends why)
  refused_end (Err (Spent budget question)) why ends = inl (ap status_of (one_refusal opts held ends.0 why))
  refused_end (Err (BadWord index)) why ends = inl (ap status_of (one_refusal opts held ends.0 why))
  refused_end (Err (BadModel diag)) why ends = inl (ap status_of (one_refusal opts held ends.0 why))
  refused_end (Err (BadConstraint diag)) why ends = inl (ap status_of (one_refusal opts held ends.0 why))
  refused_end (Err (BadRows fault)) why ends = inl (ap status_of (one_refusal opts held ends.0 why))
  refused_end (Err NoResult) why ends = inl (ap status_of (one_refusal opts held ends.0 why))
  refused_end (Err (BadResult line)) why ends = inl (ap status_of (one_refusal opts held ends.0 why))
  refused_end (Err (CannotWrite kind)) why ends = inl (ap status_of (one_refusal opts held ends.0 why))
  refused_end (Err (TooMany quantity count)) why ends = inl (ap status_of (one_refusal opts held ends.0 why))
  refused_end (Err (TooLong kind)) why ends = inl (ap status_of (one_refusal opts held ends.0 why))

  pub refusal_has_cause : (end : Result Verdict Stop) → IsRefusal (end_status end) → Ends opts held before after end
      → (stop : Stop) × FilesAreRefused opts held stop × (end_status end ≡ status_of stop)
  refusal_has_cause (Ok (Accepted rows omissions)) known ends = absurd (false≢true known)
  refusal_has_cause (Ok (BadRow line)) known ends = absurd (false≢true known)
  refusal_has_cause (Ok (BadProof line)) known ends = absurd (false≢true known)
  refusal_has_cause (Ok (BadOmission line)) known ends = absurd (false≢true known)
  refusal_has_cause (Ok (Uncovered pairs)) known ends = absurd (false≢true known)
  refusal_has_cause (Err OutOfMemory) known ends = absurd (false≢true known)
  refusal_has_cause (Err (CannotRead kind)) known ends = absurd (false≢true known)
  refusal_has_cause (Err CannotWriteReport) known ends = absurd (false≢true known)
  refusal_has_cause (Err (Spent budget question)) known ends = absurd (false≢true known)
  refusal_has_cause (Err (BadWord index)) known ends = absurd (false≢true known)
  refusal_has_cause (Err (CannotWrite kind)) known ends = absurd (false≢true known)
  refusal_has_cause (Err (BadModel diag)) known ends = (BadModel diag, ends.0, refl)
  refusal_has_cause (Err (BadConstraint diag)) known ends = (BadConstraint diag, ends.0, refl)
  refusal_has_cause (Err (BadRows fault)) known ends = (BadRows fault, ends.0, refl)
  refusal_has_cause (Err NoResult) known ends = (NoResult, ends.0, refl)
  refusal_has_cause (Err (BadResult line)) known ends = (BadResult line, ends.0, refl)
  refusal_has_cause (Err (TooMany quantity count)) known ends = (TooMany quantity count, ends.0, refl)
  refusal_has_cause (Err (TooLong kind)) known ends = (TooLong kind, ends.0, refl)

-- the statuses of ends
module _ (before after : SinkSeen) where
  pub status_known : (end : Result Verdict Stop) → IfErr end (λ stop. IsOfCheck stop before after) → IsStatus (end_status end)
  status_known (Ok (Accepted rows omissions)) of = refl
  status_known (Ok (BadRow line)) of = refl
  status_known (Ok (BadProof line)) of = refl
  status_known (Ok (BadOmission line)) of = refl
  status_known (Ok (Uncovered pairs)) of = refl
  status_known (Err OutOfMemory) of = refl
  status_known (Err (Spent budget question)) of = absurd (false≢true (of (λ e. cc)).0)
  status_known (Err (BadWord index)) of = refl
  status_known (Err (BadModel diag)) of = refl
  status_known (Err (BadConstraint diag)) of = refl
  status_known (Err (BadRows fault)) of = refl
  status_known (Err NoResult) of = refl
  status_known (Err (BadResult line)) of = refl
  status_known (Err (CannotRead kind)) of = refl
  status_known (Err (CannotWrite kind)) of = refl
  status_known (Err CannotWriteReport) of = refl
  status_known (Err (TooMany quantity count)) of = refl
  status_known (Err (TooLong kind)) of = refl

  pub not_three : (end : Result Verdict Stop) → IfErr end (λ stop. IsOfCheck stop before after) → end_status end ≢ 3
  not_three (Ok given) of h = false≢true (answer_not given 3 h)
  not_three (Err OutOfMemory) of h = omega (arith, h)
  not_three (Err (Spent budget question)) of h = omega (arith, h)
  not_three (Err (BadWord index)) of h = false≢true (of (λ e. cc)).0
  not_three (Err (BadModel diag)) of h = omega (arith, h)
  not_three (Err (BadConstraint diag)) of h = omega (arith, h)
  not_three (Err (BadRows fault)) of h = omega (arith, h)
  not_three (Err NoResult) of h = omega (arith, h)
  not_three (Err (BadResult line)) of h = omega (arith, h)
  not_three (Err (CannotRead kind)) of h = omega (arith, h)
  not_three (Err (CannotWrite kind)) of h = omega (arith, h)
  not_three (Err CannotWriteReport) of h = omega (arith, h)
  not_three (Err (TooMany quantity count)) of h = omega (arith, h)
  not_three (Err (TooLong kind)) of h = omega (arith, h)

  -- with no verdict, and where the output didn't fail, nothing was written
  pub nothing_written : (end : Result Verdict Stop) → IfErr end (λ stop. IsOfCheck stop before after) → end_status end ≢ 8
      → ¬ HasVerdict (end_status end) → after ≡ before
  nothing_written (Ok given) of eight none = absurd (none (answer_known given))
  nothing_written (Err stop) of eight none = (of (λ e. eight (ap status_of e))).1

pub seven_is_end : (end : Result Verdict Stop) → end_status end ≡ 7 → (kind : FileKind) × (end ≡ Err (CannotRead kind))
seven_is_end (Ok given) h = absurd (false≢true (answer_not given 7 h))
seven_is_end (Err OutOfMemory) h = absurd (omega (arith, h))
seven_is_end (Err (Spent budget question)) h = absurd (omega (arith, h))
seven_is_end (Err (BadWord index)) h = absurd (omega (arith, h))
seven_is_end (Err (BadModel diag)) h = absurd (omega (arith, h))
seven_is_end (Err (BadConstraint diag)) h = absurd (omega (arith, h))
seven_is_end (Err (BadRows fault)) h = absurd (omega (arith, h))
seven_is_end (Err NoResult) h = absurd (omega (arith, h))
seven_is_end (Err (BadResult line)) h = absurd (omega (arith, h))
seven_is_end (Err (CannotRead kind)) h = (kind, refl)
seven_is_end (Err (CannotWrite kind)) h = absurd (omega (arith, h))
seven_is_end (Err CannotWriteReport) h = absurd (omega (arith, h))
seven_is_end (Err (TooMany quantity count)) h = absurd (omega (arith, h))
seven_is_end (Err (TooLong kind)) h = absurd (omega (arith, h))

-- the count of the output stays where it didn't fail
pub counts_stay : (before after : SinkSeen) (end : Result Verdict Stop) → end_status end ≢ 8 → CountsOut end before after → after.faults ≡ before.faults
counts_stay before after (Ok given) eight counts = counts
counts_stay before after (Err OutOfMemory) eight counts = counts
counts_stay before after (Err (Spent budget question)) eight counts = counts
counts_stay before after (Err (BadWord index)) eight counts = counts
counts_stay before after (Err (BadModel diag)) eight counts = counts
counts_stay before after (Err (BadConstraint diag)) eight counts = counts
counts_stay before after (Err (BadRows fault)) eight counts = counts
counts_stay before after (Err NoResult) eight counts = counts
counts_stay before after (Err (BadResult line)) eight counts = counts
counts_stay before after (Err (CannotRead kind)) eight counts = counts
counts_stay before after (Err (CannotWrite kind)) eight counts = counts
counts_stay before after (Err CannotWriteReport) eight counts = absurd (eight refl)
counts_stay before after (Err (TooMany quantity count)) eight counts = counts
counts_stay before after (Err (TooLong kind)) eight counts = counts

pub verdict_is_end : (end : Result Verdict Stop) (P : Type 0) → HasVerdict (end_status end) → IfOk end (λ given. P) → P
verdict_is_end (Ok given) P known holds = holds
verdict_is_end (Err stop) P known holds = absurd (no_verdict stop known)

-- what words ask for, as the options have it
settings_given : (words : List (List ℕ)) (o : CheckOpts) {s : Settings} → read_check_words words ≡ Ok (command_seen o) → asked_by words ≡ Ok s → settings_seen o ≡ s
settings_given words o e asked = let moved : asked_by words ≡ Ok (settings_seen o) = ap settings_in e in cc

first_three : (words : List (List ℕ)) → names_in words ≡ names_in (take 3 words)
first_three [] = refl
first_three (x ∷ []) = refl
first_three (x ∷ y ∷ []) = refl
first_three (x ∷ y ∷ z ∷ rest) = refl

pub names_given : (words : List (List ℕ)) (o : CheckOpts) → read_check_words words ≡ Ok (command_seen o) → names_seen o ≡ names_in words
names_given words o e =
    ap names_in (command_read 3 (option_or (missing_name 3 words) (first_faulty_for_checker 4 [] (drop 3 words))) words (command_seen o) e).1 ∙ sym (first_three words)

-- what is said of the options and the names as they are read is said of those that the words ask for
pub for_asked : (words : List (List ℕ)) (o : CheckOpts) {s : Settings} (P : ModelOpts → NamesView → Type 0) → read_check_words words ≡ Ok (command_seen o)
    → asked_by words ≡ Ok s → P o.opts (names_seen o) → P (opts_of s) (names_in words)
for_asked words o {s} P e asked holds =
    subst (λ names. P (opts_of s) names) (names_given words o e)
    (subst (λ opts. P opts (names_seen o)) (same_opts o.opts ∙ ap opts_of (settings_given words o e asked)) holds)

-- words have a reading, unless the status is 3
pub asked_or_three : (reading : Result Command ℕ) (status : ℕ) (Q : Settings → Type 0) → ((s : Settings) → settings_in reading ≡ Ok s → Q s)
    → ((index : ℕ) → reading ≡ Err index → status ≡ 3) → status ≢ 3 → IsOkAnd (settings_in reading) Q
asked_or_three (Ok command) status Q then three other = then command.settings refl
asked_or_three (Err index) status Q then three other = absurd (other (three index refl))

pub three_is_none : {status : ℕ} → HasVerdict status → status ≢ 3
three_is_none known three = false≢true (subst HasVerdict three known)
