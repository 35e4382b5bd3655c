-- Which status a run must end with, from what its files hold.
use Rattle.std.proofs.Common.{◌≡◌, ℕ, ◌<◌, ◌≤◌, ◌⊎◌, List, length, Option, Some, None, Result, Ok, Err, inl, inr, refl, sym, ap, subst, ◌∙◌, arith}
use Rattle.std.specs.Prelude.{IfSome, IsSomeAnd}
use Rattle.outside_io.specs.believed.Seen.{FolderSeen, SinkSeen, ReadFaultsRose, PutFaultsRose}
use Rattle.seq_check.specs.believed.Events.{EventsView}
use Rattle.seq_check.specs.believed.EventFile.{events_of}
use Rattle.seq_check.specs.declared.fault.EventsFault.{EventsFault}
use Rattle.seq_cli.specs.believed.Runs.{AreRead, Ends, HoldsReport, IsRead, IsReportRead, ReadsCalmly, RoseOf, Spells, answer_of, answers}
use Rattle.seq_cli.specs.believed.Runs.{at_file, behind, cannot_read, is_refused, no_memory, no_report, not_read, too_long, wants_memory}
use Rattle.seq_cli.specs.Steps.{CountsOut, Ran}
use Rattle.seq_cli.specs.believed.Stops.{end_status, ended_status, most_of, status_of, stop_of}
use Rattle.seq_cli.specs.believed.Words.{Asked}
use Rattle.seq_cli.specs.declared.stop.Ended.{Ended}
use Rattle.seq_cli.specs.declared.stop.Input.{Input}
use Rattle.seq_cli.specs.declared.stop.Input.TheVariants.{EventFile, ReportFile}
use Rattle.seq_cli.specs.declared.stop.Stop.{Stop}
use Rattle.seq_cli.specs.declared.stop.Stop.TheVariants.{CannotRead}
use Rattle.seq_cli.proofs.RunEnds.{held_is, is_long, not_both, same_bytes}

-- the end of a run by its cases: Q is what is said of a status
module _ {asked : Asked} {folder folder_after : FolderSeen} {before after : SinkSeen} {end : Result Ended Stop}
    (ran : Ran asked folder folder_after before after end) (status : ℕ) (is : status ≡ end_status end) where
  -- each way to end but that for want of memory
  record Cases (Q : ℕ → Type 0) : Type 0 where
    unread : RoseOf asked EventFile folder folder_after → Q 7
    long : IfSome (folder.files asked.file) (λ held. IsSomeAnd held (λ bytes. most_of EventFile < length bytes)) → Q 9
    refused : (bytes : List ℕ) (fault : EventsFault) → IsRead folder.files asked.file EventFile bytes → events_of asked.len bytes ≡ Err fault → Q (status_of (stop_of fault))
    unread_report : (e : EventsView) (name : List ℕ) → AreRead asked folder.files e → asked.report ≡ Some name → RoseOf asked ReportFile folder folder_after → Q 7
    long_report : (e : EventsView) (name : List ℕ) → AreRead asked folder.files e → asked.report ≡ Some name
        → IfSome (folder.files name) (λ held. IsSomeAnd held (λ bytes. most_of ReportFile < length bytes)) → Q 9
    answer : (e : EventsView) (report : Option (List ℕ)) → AreRead asked folder.files e → IsReportRead folder.files asked.report report → Q (ended_status (answer_of e report).ended)
    unwritten : (e : EventsView) (report : Option (List ℕ)) → AreRead asked folder.files e → IsReportRead folder.files asked.report report → PutFaultsRose before after → Q 8

  ended : (Q : ℕ → Type 0) → Cases Q → (r : Result Ended Stop)
      → ((input : Input) → r ≡ Err (CannotRead input) → RoseOf asked input folder folder_after) → CountsOut r before after
      → Ends asked folder.files before after r → Q (end_status r) ⊎ (end_status r ≡ 1)
  ended Q cases (Ok x) rose counts (at_file stops stays) = absurd stops
  ended Q cases (Ok x) rose counts (behind e read stops stays) = absurd stops
  ended Q cases (Err stop) rose counts (at_file (wants_memory e) stays) = inr (ap status_of e)
  ended Q cases (Err stop) rose counts (at_file (not_read (cannot_read e)) stays) =
      inl (subst Q (sym (ap status_of e)) (cases.unread (rose EventFile (ap Err e))))
  ended Q cases (Err stop) rose counts (at_file (not_read (too_long e long)) stays) = inl (subst Q (sym (ap status_of e)) (cases.long long))
  ended Q cases (Err stop) rose counts (at_file (is_refused bytes fault read refusal e) stays) =
      inl (subst Q (sym (ap status_of e)) (cases.refused bytes fault read refusal))
  ended Q cases (Err stop) rose counts (behind e read (no_memory same) stays) = inr (ap status_of same)
  ended Q cases (Err stop) rose counts (behind e read (no_report name checked (cannot_read same)) stays) =
      inl (subst Q (sym (ap status_of same)) (cases.unread_report e name read checked (rose ReportFile (ap Err same))))
  ended Q cases (Err stop) rose counts (behind e read (no_report name checked (too_long same long)) stays) =
      inl (subst Q (sym (ap status_of same)) (cases.long_report e name read checked long))
  ended Q cases (Ok x) rose counts (answers e report read report_read writes) = inl (subst Q (sym (ap ended_status writes.0)) (cases.answer e report read report_read))
  ended Q cases (Err stop) rose counts (answers e report read report_read writes) =
      inl (subst Q (sym (ap status_of writes.0))
      (cases.unwritten e report read report_read (subst (λ s. CountsOut (Err s) before after) writes.0 counts)))

  by_cases : (Q : ℕ → Type 0) → Cases Q → Q status ⊎ (status ≡ 1)
  by_cases Q cases = subst (λ n. Q n ⊎ (n ≡ 1)) (sym is) (ended Q cases end ran.rose ran.counts ran.ends)

  unrisen : (name : Option (List ℕ)) → IfSome name (λ n. ¬ (ReadFaultsRose n folder folder_after)) → IsSomeAnd name (λ n. ReadFaultsRose n folder folder_after) → ⊥
  unrisen None calm none = none
  unrisen (Some n) calm rose = calm rose

  -- the file of events spells some
  module _ (held : Option (List ℕ)) (e : EventsView) (at : folder.files asked.file ≡ Some held) (spells : Spells asked.len held e) where
    not_long : {A : Type 0} → IfSome (folder.files asked.file) (λ h. IsSomeAnd h (λ bytes. most_of EventFile < length bytes)) → A
    not_long long = of held (is_long folder.files asked.file EventFile held at long) spells
      where
        of : {A : Type 0} (h : Option (List ℕ)) → IsSomeAnd h (λ bytes. most_of EventFile < length bytes) → Spells asked.len h e → A
        of None none spelled = absurd none
        of (Some bytes) more spelled = absurd (omega (arith, more, spelled.0))

    not_refused : {A : Type 0} (bytes : List ℕ) (fault : EventsFault) → IsRead folder.files asked.file EventFile bytes → events_of asked.len bytes ≡ Err fault → A
    not_refused bytes fault read refusal = of held (held_is folder.files asked.file EventFile held bytes at read) spells
      where
        of : {A : Type 0} (h : Option (List ℕ)) → h ≡ Some bytes → Spells asked.len h e → A
        of None none spelled = absurd (cc)
        of (Some told) same spelled = not_both asked.len told bytes e fault (let it : told ≡ bytes = cc in it) spelled.1 refusal

    same_events : (other : EventsView) → AreRead asked folder.files other → other ≡ e
    same_events other read = of held (held_is folder.files asked.file EventFile held read.bytes at read.read) spells
      where
        of : (h : Option (List ℕ)) → h ≡ Some read.bytes → Spells asked.len h e → other ≡ e
        of None none spelled = absurd (cc)
        of (Some told) same spelled =
            let bytes : told ≡ read.bytes = cc in
            let one : Ok other ≡ Ok e = sym read.spelled ∙ ap (events_of asked.len) (sym bytes) ∙ spelled.1 in
            cc

    -- a report with too many bytes
    pub report_long_end : (name report : List ℕ) → asked.report ≡ Some name → folder.files name ≡ Some (Some report) → most_of ReportFile < length report → ReadsCalmly asked folder folder_after
        → (status ≡ 9) ⊎ (status ≡ 1)
    report_long_end name report checked at_report long calm = by_cases (λ n. n ≡ 9) (record {
      unread = λ rose. absurd (calm.0 rose);
      long = not_long;
      refused = λ bytes fault read same. not_refused bytes fault read same;
      unread_report = λ e2 n read same rose. absurd (unrisen asked.report calm.1 rose);
      long_report = λ e2 n read same more. refl;
      answer = λ e2 r read report_read. absurd (not_within r (subst (λ n. IsReportRead folder.files n r) checked report_read));
      unwritten = λ e2 r read report_read rose. absurd (not_within r (subst (λ n. IsReportRead folder.files n r) checked report_read));
    })
      where
        not_within : (r : Option (List ℕ)) → IsReportRead folder.files (Some name) r → ⊥
        not_within None none = none
        not_within (Some bytes) read =
            let same = same_bytes folder.files name ReportFile report bytes at_report read in
            let within = read.within in
            omega (arith, long, within, ap length same)

    -- both folder.files are within their bytes
    pub complete_end : (report : Option (List ℕ)) → HoldsReport folder.files asked.report report → ReadsCalmly asked folder folder_after → ¬ (PutFaultsRose before after)
        → (status ≡ ended_status (answer_of e report).ended) ⊎ (status ≡ 1)
    complete_end report holds calm unbroken = by_cases (λ n. n ≡ ended_status (answer_of e report).ended) (record {
      unread = λ rose. absurd (calm.0 rose);
      long = not_long;
      refused = λ bytes fault read same. not_refused bytes fault read same;
      unread_report = λ e2 n read same rose. absurd (unrisen asked.report calm.1 rose);
      long_report = λ e2 n read same more. absurd (not_too_long n report (subst (λ name. HoldsReport folder.files name report) same holds) more);
      answer = λ e2 r read report_read.
          ap (λ x. ended_status (answer_of x r).ended) (same_events e2 read) ∙ ap (λ x. ended_status (answer_of e x).ended) (same_report asked.report r report report_read holds);
      unwritten = λ e2 r read report_read rose. absurd (unbroken rose);
    })
      where
        not_too_long : (n : List ℕ) (r : Option (List ℕ)) → HoldsReport folder.files (Some n) r → IfSome (folder.files n) (λ h. IsSomeAnd h (λ bytes. most_of ReportFile < length bytes)) → ⊥
        not_too_long n None none more = none
        not_too_long n (Some bytes) held more =
            let long = is_long folder.files n ReportFile (Some bytes) held.0 more in
            omega (arith, long, held.1)

        same_report : (name r other : Option (List ℕ)) → IsReportRead folder.files name r → HoldsReport folder.files name other → r ≡ other
        same_report None r other none nothing = none ∙ sym nothing
        same_report (Some n) None other none held = absurd none
        same_report (Some n) (Some bytes) None read none = absurd none
        same_report (Some n) (Some bytes) (Some told) read held = ap Some (sym (same_bytes folder.files n ReportFile told bytes held.0 read))

  -- a refused file of events
  pub refused_end : (bytes : List ℕ) (fault : EventsFault) → folder.files asked.file ≡ Some (Some bytes) → length bytes ≤ most_of EventFile → events_of asked.len bytes ≡ Err fault
      → ¬ (ReadFaultsRose asked.file folder folder_after) → (status ≡ status_of (stop_of fault)) ⊎ (status ≡ 1)
  refused_end bytes fault at short refusal calm = by_cases (λ n. n ≡ status_of (stop_of fault)) (record {
    unread = λ rose. absurd (calm rose);
    long = λ more. let long = is_long folder.files asked.file EventFile (Some bytes) at more in absurd (omega (arith, long, short));
    refused = λ other f read same.
        let one : Err f ≡ Err fault = sym same ∙ ap (events_of asked.len) (sym (same_bytes folder.files asked.file EventFile bytes other at read)) ∙ refusal in
        ap (λ x. status_of (stop_of x)) (let it : f ≡ fault = cc in it);
    unread_report = λ e name read checked rose. spelled e read;
    long_report = λ e name read checked more. spelled e read;
    answer = λ e report read report_read. spelled e read;
    unwritten = λ e report read report_read rose. spelled e read;
  })
    where
      spelled : {A : Type 0} (e : EventsView) → AreRead asked folder.files e → A
      spelled e read = not_both asked.len read.bytes bytes e fault (sym (same_bytes folder.files asked.file EventFile bytes read.bytes at read.read)) read.spelled refusal

  -- one with too many bytes
  pub long_end : (bytes : List ℕ) → folder.files asked.file ≡ Some (Some bytes) → most_of EventFile < length bytes → ¬ (ReadFaultsRose asked.file folder folder_after)
      → (status ≡ 9) ⊎ (status ≡ 1)
  long_end bytes at long calm = by_cases (λ n. n ≡ 9) (record {
    unread = λ rose. absurd (calm rose);
    long = λ more. refl;
    refused = λ other f read same. not_within other read;
    unread_report = λ e name read checked rose. not_within read.bytes read.read;
    long_report = λ e name read checked more. refl;
    answer = λ e report read report_read. not_within read.bytes read.read;
    unwritten = λ e report read report_read rose. not_within read.bytes read.read;
  })
    where
      not_within : {A : Type 0} (other : List ℕ) → IsRead folder.files asked.file EventFile other → A
      not_within other read =
          let same = same_bytes folder.files asked.file EventFile bytes other at read in
          let within = read.within in
          absurd (omega (arith, long, within, ap length same))
