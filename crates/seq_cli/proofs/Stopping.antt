-- Why a step of a run stops, by what it was handed.
use Rattle.std.proofs.Common.{◌≡◌, ◌≢◌, ℕ, List, Option, Some, None, Result, Ok, Err, inl, inr, ◌⊎◌, refl, sym, ap, subst, ◌∙◌, ◌<◌, length}
use Rattle.std.specs.Prelude.{IfErr, IfSome, IsErrAnd, IsSomeAnd}
use Rattle.outside_io.specs.believed.Faults.{Rose}
use Rattle.outside_io.specs.believed.Files.{Files}
use Rattle.outside_io.specs.believed.Seen.{FolderSeen, SinkSeen, KeepsFiles, KeepsReadFaults, ReadFaultsRose}
use Rattle.outside_io.specs.believed.Puts.{Puts}
use Rattle.outside_io.specs.declared.answers.WriteAnswer.TheVariants.{Done, Failed}
use Rattle.seq_check.specs.believed.Events.{EventsView}
use Rattle.seq_check.specs.believed.EventFile.{events_of}
use Rattle.seq_check.specs.Reading.{Reads}
use Rattle.seq_check.specs.declared.fault.EventsFault.{EventsFault}
use Rattle.seq_check.specs.declared.fault.EventsFault.TheVariants.{Bad, TooMany, NoMemory}
use Rattle.seq_cli.specs.believed.Runs.{AreRead, IsRead, IsReportRead, RoseOf, StopsAtFile, StopsBehind, StopsReading, answers, behind, cannot_read}
use Rattle.seq_cli.specs.believed.Runs.{is_refused, no_memory, no_report, too_long, wants_memory}
use Rattle.seq_cli.specs.Steps.{CountsOut, IsAnswer, Ran}
use Rattle.seq_cli.specs.believed.Stops.{most_of, stop_of}
use Rattle.seq_cli.specs.believed.Words.{Asked}
use Rattle.seq_cli.specs.declared.stop.Ended.{Ended}
use Rattle.seq_cli.specs.declared.stop.Input.{Input}
use Rattle.seq_cli.specs.declared.stop.Input.TheVariants.{EventFile, ReportFile}
use Rattle.seq_cli.specs.declared.stop.Stop.{Stop}
use Rattle.seq_cli.specs.declared.stop.Stop.TheVariants.{OutOfMemory, CannotRead, CannotWrite}
use Rattle.value_text.proofs.ListLemmas.{is_err, one_err}

-- a file of events that was read is refused
stops_refused : (asked : Asked) (files : Files) (bytes : List ℕ) (stop : Stop) (fault : EventsFault) → stop ≡ stop_of fault → IsRead files asked.file EventFile bytes
    → Reads (events_of asked.len bytes) (Err fault) → StopsAtFile asked files stop
stops_refused asked files bytes stop NoMemory is read reads = wants_memory is
stops_refused asked files bytes stop (Bad line code) is read reads = is_refused bytes (Bad line code) read reads is
stops_refused asked files bytes stop (TooMany limit count) is read reads = is_refused bytes (TooMany limit count) read reads is

pub refused_file : {A : Type 0} (asked : Asked) (files : Files) (bytes : List ℕ) (result : Result A Stop) (fault : EventsFault)
    → IsErrAnd result (λ stop. stop ≡ stop_of fault) → IsRead files asked.file EventFile bytes → Reads (events_of asked.len bytes) (Err fault)
    → IfErr result (StopsAtFile asked files)
refused_file asked files bytes (Ok read) fault none read_bytes reads = absurd none
refused_file asked files bytes (Err stop) fault is read_bytes reads = stops_refused asked files bytes stop fault is read_bytes reads

-- the report that is checked isn't read
pub no_report_read : {A : Type 0} (asked : Asked) (files : Files) (name : List ℕ) (result : Result A Stop) (stop : Stop) → IsErrAnd result (λ s. s ≡ stop)
    → asked.report ≡ Some name → (stop ≡ OutOfMemory) ⊎ StopsReading files name ReportFile stop → IfErr result (StopsBehind asked files)
no_report_read asked files name (Ok read) stop none checked stops = absurd none
no_report_read asked files name (Err s) stop same checked (inl memory) = no_memory (same ∙ memory)
no_report_read asked files name (Err s) stop same checked (inr stops) = no_report name checked (subst (StopsReading files name ReportFile) (sym same) stops)

-- ---- what the folder tells stays

module _ (old new : FolderSeen) (keeps : KeepsFiles old new) where
  read_before : (name bytes : List ℕ) (input : Input) → IsRead new.files name input bytes → IsRead old.files name input bytes
  read_before name bytes input read = record { held = subst (λ f. IfSome f (λ held. held ≡ Some bytes)) (keeps name) read.held; within = read.within }

  stops_before : (name : List ℕ) (input : Input) (stop : Stop) → StopsReading new.files name input stop → StopsReading old.files name input stop
  stops_before name input stop (cannot_read is) = cannot_read is
  stops_before name input stop (too_long is long) = too_long is (subst (λ f. IfSome f (λ held. IsSomeAnd held (λ bytes. most_of input < length bytes))) (keeps name) long)

  pub behind_before : (asked : Asked) (stop : Stop) → StopsBehind asked new.files stop → StopsBehind asked old.files stop
  behind_before asked stop (no_memory is) = no_memory is
  behind_before asked stop (no_report name checked stops) = no_report name checked (stops_before name ReportFile stop stops)

  report_before : (name report : Option (List ℕ)) → IsReportRead new.files name report → IsReportRead old.files name report
  report_before None report is = is
  report_before (Some name) None none = absurd none
  report_before (Some name) (Some bytes) read = read_before name bytes ReportFile read

-- ---- the ends of a run whose events are read

module _ (asked : Asked) (folder middle folder_after : FolderSeen) (keeps : KeepsFiles folder middle) (e : EventsView)
    (read : AreRead asked folder.files e) (stay : KeepsReadFaults folder middle) (before after : SinkSeen) where
  stays : KeepsReadFaults middle folder_after → KeepsReadFaults folder folder_after
  stays later_stay = λ name. later_stay name ∙ stay name

  -- the report that is checked isn't read
  pub ran_behind : (end : Result Ended Stop) (stop : Stop) → IsErrAnd end (λ s. s ≡ stop) → StopsBehind asked middle.files stop
      → (stop ≡ CannotRead ReportFile → IsSomeAnd asked.report (λ name. ReadFaultsRose name middle folder_after))
      → (stop ≢ CannotRead ReportFile → KeepsReadFaults middle folder_after) → Ran asked folder folder_after before before end
  ran_behind end stop same stops rose calm = let is = is_err same in record {
    ends = behind e read (subst (λ r. IsErrAnd r (StopsBehind asked folder.files)) (sym is) (behind_before folder middle keeps asked stop stops)) refl;
    rose = λ input failed. of input (one_err is failed) stops;
    calm = λ other. stays (calm (λ failed. other ReportFile (is ∙ ap Err failed)));
    counts = subst (λ r. CountsOut r before before) (sym is) (unwritten stop stops);
  }
    where
      risen : (name : Option (List ℕ)) → IsSomeAnd name (λ n. ReadFaultsRose n middle folder_after) → IsSomeAnd name (λ n. ReadFaultsRose n folder folder_after)
      risen None none = none
      risen (Some n) more = subst (λ k. Rose k (folder_after.read_faults n)) (stay n) more

      of : (input : Input) → stop ≡ CannotRead input → StopsBehind asked middle.files stop → RoseOf asked input folder folder_after
      of ReportFile same stops = risen asked.report (rose same)
      of EventFile same (no_memory it) = absurd (cc)
      of EventFile same (no_report name checked (cannot_read it)) = absurd (cc)
      of EventFile same (no_report name checked (too_long it long)) = absurd (cc)

      unwritten : (s : Stop) → StopsBehind asked middle.files s → CountsOut (Err s) before before
      unwritten s (no_memory it) = subst (λ t. CountsOut (Err t) before before) (sym it) refl
      unwritten s (no_report name checked (cannot_read it)) = subst (λ t. CountsOut (Err t) before before) (sym it) refl
      unwritten s (no_report name checked (too_long it long)) = subst (λ t. CountsOut (Err t) before before) (sym it) refl

  module _ (later_stay : KeepsReadFaults middle folder_after) (text put : List ℕ) (ended : Ended) (answer : IsAnswer asked middle.files e text ended) (same : put ≡ text) where
    -- the text was written whole
    pub ran_whole : Puts Done before after put → Ran asked folder folder_after before after (Ok ended)
    ran_whole puts = record {
      ends = answers e answer.report read (report_before folder middle keeps asked.report answer.report answer.read) (answer.ended_is, subst (Puts Done before after) (same ∙ answer.text_is) puts);
      rose = λ input failed. absurd (cc);
      calm = λ other. stays later_stay;
      counts = puts.counts;
    }

    -- or not
    pub ran_failed : Puts Failed before after put → Ran asked folder folder_after before after (Err CannotWrite)
    ran_failed puts = record {
      ends = answers e answer.report read (report_before folder middle keeps asked.report answer.report answer.read) (refl, subst (Puts Failed before after) (same ∙ answer.text_is) puts);
      rose = λ input failed. absurd (cc);
      calm = λ other. stays later_stay;
      counts = puts.counts.0;
    }
