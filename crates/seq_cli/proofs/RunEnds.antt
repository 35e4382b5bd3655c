-- What is known of a run from how it ended.
use Rattle.std.proofs.Common.{◌≡◌, ◌≢◌, ℕ, ◌<◌, ◌≤◌, List, length, Option, Some, None, Result, Ok, Err, inl, inr, refl, sym, ap, subst, ◌∙◌, arith}
use Rattle.std.specs.Prelude.{IfSome, IsSomeAnd}
use Rattle.outside_io.specs.believed.Files.{Files}
use Rattle.outside_io.specs.believed.Seen.{FolderSeen, SinkSeen, KeepsReadFaults}
use Rattle.outside_io.specs.believed.Puts.{Puts, PutsBytes}
use Rattle.outside_io.specs.declared.answers.WriteAnswer.TheVariants.{Done}
use Rattle.seq_check.specs.believed.Events.{AreEvents, EventsView}
use Rattle.seq_check.specs.believed.EventFile.{events_of}
use Rattle.seq_check.specs.believed.Verdicts.{verdict}
use Rattle.seq_check.specs.declared.fault.EventsFault.{EventsFault}
use Rattle.seq_check.specs.declared.verdict.OrderVerdict.{OrderVerdict}
use Rattle.seq_check.specs.declared.verdict.OrderVerdict.TheVariants.{Accepted, BadLine, Uncovered}
use Rattle.seq_cover.specs.believed.Covering.{IsAccepted}
use Rattle.seq_cover.specs.believed.OrderGrowth.{grown}
use Rattle.seq_cover.specs.believed.ReportText.{report_text}
use Rattle.seq_cli.specs.believed.Runs.{AreRead, Ends, HasVerdict, IsRead, IsReportRead, PrintsCovering, ReadFault, RoseOf, Spells, answer_of, answers}
use Rattle.seq_cli.specs.believed.Runs.{at_file, behind, ended_by}
use Rattle.seq_cli.specs.Steps.{CountsOut, Ran}
use Rattle.seq_cli.specs.believed.Stops.{end_status, most_of}
use Rattle.seq_cli.specs.believed.Words.{Asked}
use Rattle.seq_cli.specs.declared.stop.Ended.{Ended}
use Rattle.seq_cli.specs.declared.stop.Ended.TheVariants.{Whole, Refused}
use Rattle.seq_cli.specs.declared.stop.Input.{Input}
use Rattle.seq_cli.specs.declared.stop.Input.TheVariants.{EventFile, ReportFile}
use Rattle.seq_cli.specs.declared.stop.Stop.{Stop}
use Rattle.seq_cli.specs.declared.stop.Stop.TheVariants.{OutOfMemory, CannotRead, CannotWrite, TooMany, TooLong}
use Rattle.seq_cli.specs.declared.stop.Stop.TheVariants as stops
use Rattle.seq_cover.proofs.AcceptedLaws.{grown_accepted, grown_text_covers}
use Rattle.value_text.proofs.ListLemmas.{one_ok}

-- ---- what a status tells of the end

zero_is_end : (end : Result Ended Stop) → end_status end ≡ 0 → end ≡ Ok Whole
zero_is_end (Ok Whole) h = refl
zero_is_end (Ok Refused) h = absurd (omega (arith, h))
zero_is_end (Err OutOfMemory) h = absurd (omega (arith, h))
zero_is_end (Err (stops.BadLine line code)) h = absurd (omega (arith, h))
zero_is_end (Err (CannotRead input)) h = absurd (omega (arith, h))
zero_is_end (Err CannotWrite) h = absurd (omega (arith, h))
zero_is_end (Err (TooMany limit count)) h = absurd (omega (arith, h))
zero_is_end (Err (TooLong input)) h = absurd (omega (arith, h))

ten_is_end : (end : Result Ended Stop) → end_status end ≡ 10 → end ≡ Ok Refused
ten_is_end (Ok Whole) h = absurd (omega (arith, h))
ten_is_end (Ok Refused) h = refl
ten_is_end (Err OutOfMemory) h = absurd (omega (arith, h))
ten_is_end (Err (stops.BadLine line code)) h = absurd (omega (arith, h))
ten_is_end (Err (CannotRead input)) h = absurd (omega (arith, h))
ten_is_end (Err CannotWrite) h = absurd (omega (arith, h))
ten_is_end (Err (TooMany limit count)) h = absurd (omega (arith, h))
ten_is_end (Err (TooLong input)) h = absurd (omega (arith, h))

seven_is_end : (end : Result Ended Stop) → end_status end ≡ 7 → (input : Input) × (end ≡ Err (CannotRead input))
seven_is_end (Ok Whole) h = absurd (omega (arith, h))
seven_is_end (Ok Refused) h = absurd (omega (arith, h))
seven_is_end (Err OutOfMemory) h = absurd (omega (arith, h))
seven_is_end (Err (stops.BadLine line code)) h = absurd (omega (arith, h))
seven_is_end (Err (CannotRead input)) h = (input, refl)
seven_is_end (Err CannotWrite) h = absurd (omega (arith, h))
seven_is_end (Err (TooMany limit count)) h = absurd (omega (arith, h))
seven_is_end (Err (TooLong input)) h = absurd (omega (arith, h))

-- the count of faults of the output stays with every end but that of a write
out_stays : (end : Result Ended Stop) (before after : SinkSeen) → end_status end ≢ 8 → CountsOut end before after → after.faults ≡ before.faults
out_stays (Ok ended) before after apart counts = counts
out_stays (Err OutOfMemory) before after apart counts = counts
out_stays (Err (stops.BadLine line code)) before after apart counts = counts
out_stays (Err (CannotRead input)) before after apart counts = counts
out_stays (Err CannotWrite) before after apart counts = absurd (apart refl)
out_stays (Err (TooMany limit count)) before after apart counts = counts
out_stays (Err (TooLong input)) before after apart counts = counts

-- ---- a run ended for what is asked

pub ran_asked :
    {asked : Result Asked ℕ} {one other : Asked} {folder folder_after : FolderSeen} {before after : SinkSeen}
    {end : Result Ended Stop} → asked ≡ Ok one → asked ≡ Ok other → Ran one folder folder_after before after end
    → Ran other folder folder_after before after end
ran_asked {asked} {one} {other} {folder} {folder_after} {before} {after} {end} e f ran =
    subst (λ a. Ran a folder folder_after before after end) (one_ok e f) ran

-- ---- bytes that were read, where the folder tells

module _ (files : Files) (name : List ℕ) (input : Input) where
  pub held_is : (held : Option (List ℕ)) (bytes : List ℕ) → files name ≡ Some held → IsRead files name input bytes → held ≡ Some bytes
  held_is held bytes told read = subst (λ f. IfSome f (λ h. h ≡ Some bytes)) told read.held

  pub same_bytes : (told bytes : List ℕ) → files name ≡ Some (Some told) → IsRead files name input bytes → told ≡ bytes
  same_bytes told bytes at read = let same = held_is (Some told) bytes at read in cc

  pub not_missing : {A : Type 0} (bytes : List ℕ) → files name ≡ Some None → IsRead files name input bytes → A
  not_missing bytes at read = let none = held_is None bytes at read in absurd (cc)

  pub is_long : (held : Option (List ℕ)) → files name ≡ Some held → IfSome (files name) (λ h. IsSomeAnd h (λ bytes. most_of input < length bytes))
      → IsSomeAnd held (λ bytes. most_of input < length bytes)
  is_long held at long = subst (λ f. IfSome f (λ h. IsSomeAnd h (λ bytes. most_of input < length bytes))) at long

pub not_both : {A : Type 0} (len : ℕ) (bytes other : List ℕ) (e : EventsView) (fault : EventsFault) → bytes ≡ other → events_of len bytes ≡ Ok e → events_of len other ≡ Err fault → A
not_both len bytes other e fault same ok err = let ok_other : events_of len other ≡ Ok e = ap (events_of len) (sym same) ∙ ok in absurd (cc)

-- the events that are spelled, where the folder tells
spelled_events : (asked : Asked) (files : Files) (held : Option (List ℕ)) (e : EventsView) → files asked.file ≡ Some held → AreRead asked files e → Spells asked.len held e
spelled_events asked files held e at read =
    subst (λ h. IsSomeAnd h (λ bytes. (length bytes ≤ most_of EventFile) × (events_of asked.len bytes ≡ Ok e)))
    (sym (held_is files asked.file EventFile held read.bytes at read.read)) (read.read.within, read.spelled)

-- ---- a run that wrote its text whole

record Answered (asked : Asked) (files : Files) (before after : SinkSeen) (ended : Ended) : Type 0 where
  e : EventsView
  report : Option (List ℕ)
  read : AreRead asked files e
  report_read : IsReportRead files asked.report report
  ended_is : ended ≡ (answer_of e report).ended
  puts : Puts Done before after (answer_of e report).text

answered : (asked : Asked) (files : Files) (before after : SinkSeen) (ended : Ended) → Ends asked files before after (Ok ended) → Answered asked files before after ended
answered asked files before after ended (at_file stops same) = absurd stops
answered asked files before after ended (behind e read stops same) = absurd stops
answered asked files before after ended (answers e report read report_read writes) =
    record { e = e; report = report; read = read; report_read = report_read; ended_is = writes.0; puts = writes.1 }

-- the verdict behind an end
accepted_by : (v : OrderVerdict) → Whole ≡ ended_by v → IsAccepted v
accepted_by (Accepted rows omissions) is = tt
accepted_by (BadLine line) is = absurd (cc)
accepted_by (Uncovered sequence) is = absurd (cc)

refused_by : (v : OrderVerdict) → Refused ≡ ended_by v → ¬ (IsAccepted v)
refused_by (Accepted rows omissions) is = absurd (cc)
refused_by (BadLine line) is = λ none. none
refused_by (Uncovered sequence) is = λ none. none

-- what is printed covers
prints_covering : (e : EventsView) (before : List ℕ) (after : Option (List ℕ)) → AreEvents e
    → PutsBytes Done (Some before) after (report_text e (grown e)) → IsSomeAnd after (PrintsCovering e before)
prints_covering e before after kept puts =
    subst (λ a. IsSomeAnd a (PrintsCovering e before)) (sym puts) (record {
      added = report_text e (grown e);
      behind = refl;
      covers = grown_text_covers e kept;
      accepted = subst IsAccepted (sym (grown_accepted e kept)) tt;
    })

module _ {asked : Asked} {folder folder_after : FolderSeen} {before after : SinkSeen} {end : Result Ended Stop}
    (ran : Ran asked folder folder_after before after end) (status : ℕ) (is : status ≡ end_status end) where
  whole_end : (ended : Ended) → end ≡ Ok ended → Answered asked folder.files before after ended
  whole_end ended same = answered asked folder.files before after ended (subst (Ends asked folder.files before after) same ran.ends)

  -- the headline
  pub covers_end : (held : Option (List ℕ)) (old : List ℕ) → status ≡ 0 → asked.report ≡ None → folder.files asked.file ≡ Some held → before.written ≡ Some old
      → (e : EventsView) × Spells asked.len held e × IsSomeAnd after.written (PrintsCovering e old)
  covers_end held old zero none at told =
      let it = whole_end Whole (zero_is_end end (sym is ∙ zero)) in
      let no_report_is : it.report ≡ None = subst (λ name. IsReportRead folder.files name it.report) none it.report_read in
      let puts = subst (λ b. PutsBytes Done b after.written (report_text it.e (grown it.e))) told (subst (λ r. PutsBytes Done before.written after.written (answer_of it.e r).text) no_report_is it.puts.puts) in
      (it.e, spelled_events asked folder.files held it.e at it.read, prints_covering it.e old after.written it.read.kept puts)

  -- a report that is checked
  has_verdict : (ended : Ended) (P : OrderVerdict → Type 0) → ((v : OrderVerdict) → ended ≡ ended_by v → P v) → (it : Answered asked folder.files before after ended)
      → (name : List ℕ) (held report found : Option (List ℕ)) → folder.files asked.file ≡ Some held → folder.files name ≡ Some report
      → ended ≡ (answer_of it.e found).ended → IsReportRead folder.files (Some name) found → HasVerdict asked.len held report P
  has_verdict ended P says it name held report None at at_report ended_is none = absurd none
  has_verdict ended P says it name held report (Some bytes) at at_report ended_is read = (
    it.e,
    spelled_events asked folder.files held it.e at it.read,
    subst (λ r. IsSomeAnd r (λ b. (length b ≤ most_of ReportFile) × P (verdict it.e b)))
        (sym (held_is folder.files name ReportFile report bytes at_report read)) (read.within, says (verdict it.e bytes) ended_is),
  )

  pub accepts_end : (name : List ℕ) (held report : Option (List ℕ)) → status ≡ 0 → asked.report ≡ Some name → folder.files asked.file ≡ Some held → folder.files name ≡ Some report
      → HasVerdict asked.len held report IsAccepted
  accepts_end name held report zero checked at at_report =
      let it = whole_end Whole (zero_is_end end (sym is ∙ zero)) in
      has_verdict Whole IsAccepted accepted_by it name held report it.report at at_report it.ended_is (subst (λ n. IsReportRead folder.files n it.report) checked it.report_read)

  abbrev Refuses : Option (List ℕ) → List ℕ → Type 0
  Refuses held name = (report : Option (List ℕ)) → folder.files name ≡ Some report → HasVerdict asked.len held report (λ v. ¬ (IsAccepted v))

  pub refuses_end : (held : Option (List ℕ)) → status ≡ 10 → folder.files asked.file ≡ Some held → IsSomeAnd asked.report (Refuses held)
  refuses_end held ten at =
      let it = whole_end Refused (ten_is_end end (sym is ∙ ten)) in
      checked asked.report it.report it it.ended_is it.report_read
    where
      checked :
          (name found : Option (List ℕ)) (it : Answered asked folder.files before after Refused) → Refused ≡ (answer_of it.e found).ended → IsReportRead folder.files name found
          → IsSomeAnd name (Refuses held)
      checked None None it ended_is none = absurd (cc)
      checked None (Some bytes) it ended_is none = absurd (cc)
      checked (Some name) found it ended_is read = λ report at_report. has_verdict Refused (λ v. ¬ (IsAccepted v)) refused_by it name held report found at at_report ended_is read

  -- a count of faults of reading rose
  pub read_end : status ≡ 7 → ReadFault asked folder folder_after
  read_end seven = of it.0 (ran.rose it.0 it.1)
    where
      it : (input : Input) × (end ≡ Err (CannotRead input))
      it = seven_is_end end (sym is ∙ seven)

      of : (input : Input) → RoseOf asked input folder folder_after → ReadFault asked folder folder_after
      of EventFile rose = inl rose
      of ReportFile rose = inr rose

  -- or none did
  pub calm_end : status ≢ 7 → KeepsReadFaults folder folder_after
  calm_end apart = ran.calm (λ input failed. apart (is ∙ ap end_status failed))

  pub unbroken_end : status ≢ 8 → after.faults ≡ before.faults
  unbroken_end apart = out_stays end before after (λ eight. apart (is ∙ eight)) ran.counts
