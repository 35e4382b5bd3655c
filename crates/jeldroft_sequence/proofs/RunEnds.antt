-- What is known of a run from how it ended.
use Rattle.std.proofs.Common.{◌≡◌, ◌⊎◌, ℕ, true, false, List, length, Option, Some, None, Result, Ok, Err, inl, inr, refl, sym, ap, subst, ◌∙◌, arith, nat_lt}
use Rattle.std.specs.Prelude.{IfOk, IfSome, IsErrAnd, IsSomeAnd}
use Rattle.std.specs.declared.vec.Vec.{Vec}
use Rattle.std.specs.declared.alloc.Global.{Global}
use Rattle.std.proofs.lemmas.Bool.{cases_Bool}
use Rattle.outside_io.specs.believed.Seen.{FolderSeen, KeepsFiles, SinkSeen}
use Rattle.seq_check.specs.believed.EventFile.{events_of}
use Rattle.seq_check.specs.believed.Events.{AreEvents, EventsView}
use Rattle.seq_check.specs.believed.Verdicts.{verdict}
use Rattle.seq_check.specs.declared.verdict.OrderVerdict.{OrderVerdict}
use Rattle.seq_check.specs.declared.verdict.OrderVerdict.TheVariants.{Accepted, BadLine, Uncovered}
use Rattle.seq_cover.specs.believed.Covering.{IsAccepted}
use Rattle.seq_cover.proofs.AcceptedLaws.{grown_accepted, grown_text_covers}
use Rattle.value_text.proofs.ListLemmas.{one_err, one_ok}
use Rattle.jeldroft_files.specs.Runs.{Ends, IsCalledFor, IsDueOnce}
use Rattle.jeldroft_files.specs.believed.Runs.{IsWritten, Leaves, Moment, RunsAs, moment}
use Rattle.jeldroft_files.proofs.Ending as endings
use Rattle.jeldroft_sequence.specs.believed.Runs.{Judgement, JudgesAs}
use Rattle.jeldroft_sequence.specs.believed.Sequences.{CoversEvents, HasVerdict, IsJudgementDue, IsReportDue, bytes_held, events_held, events_or, events_read, judgement_of, judgement_on, judgement_read, most_of, report_on, status_of, verdict_status}
use Rattle.jeldroft_sequence.specs.Steps.{Gives, GivesEvents, GivesVerdict, IsDue, Prints, end_status, judgement_seen, report_seen, verdict_seen}
use Rattle.jeldroft_sequence.specs.declared.cause.SequenceCause.{SequenceCause}
use Rattle.jeldroft_sequence.specs.declared.cause.SequenceFile.TheVariants.{Events, Report}
use Rattle.jeldroft_sequence.specs.declared.ended.Ended.{Ended}
use Rattle.jeldroft_sequence.specs.declared.verdict.Verdict.{Verdict}

-- ---- the events

-- those of the bytes of their file
pub events_from : (file : Option (Option (List ℕ))) (len : ℕ) (bytes slice : List ℕ) (result : Result EventsView SequenceCause) → slice ≡ bytes
    → IfSome file (λ held. bytes_held Events held ≡ Ok bytes) → GivesEvents (events_or (events_of len slice)) result
    → IfSome file (λ held. GivesEvents (events_held len held) result)
events_from None len bytes slice result same read gives = tt
events_from (Some held) len bytes slice result same read gives =
    subst (λ found. GivesEvents (events_read len found) result) (sym read) (subst (λ text. GivesEvents (events_or (events_of len text)) result) same gives)

-- ---- a report of orders

-- what is grown for the events of a file covers them
pub grown_covers : (file : Option (Option (List ℕ))) (len : ℕ) (e : EventsView) (result : Result (Vec ℕ Global) SequenceCause) → AreEvents e
    → IfSome file (λ held. events_held len held ≡ Ok e) → Gives (report_on (Ok e)) result
    → IfOk result (λ text. IfSome file (λ held. CoversEvents len held text.items))
grown_covers file len e (Err cause) kept spelled gives = tt
grown_covers None len e (Ok text) kept spelled gives = tt
grown_covers (Some held) len e (Ok text) kept spelled gives = subst (CoversEvents len held) (one_ok refl gives) (record {
  e = e;
  spelled = spelled;
  covers = grown_text_covers e kept;
  accepted = subst IsAccepted (sym (grown_accepted e kept)) tt;
})

-- one thing is called for
report_once : (len : ℕ) (held : Option (List ℕ)) → IsDueOnce status_of (IsReportDue len held)
report_once len held = record {
  not_both = λ text cause text_is cause_is. let differ : Ok text ≡ Err cause = sym text_is ∙ cause_is in cc;
  one_status = λ one other one_is other_is. ap status_of (one_err one_is other_is);
}

is_called_for : (len : ℕ) (held : Option (List ℕ)) (answer : Result (Vec ℕ Global) SequenceCause) → Gives (report_on (events_held len held)) answer
    → IsCalledFor status_of (IsReportDue len held) (report_seen answer)
is_called_for len held (Ok text) gives = gives
is_called_for len held (Err cause) (inl called) = inr (cause, called, refl)
is_called_for len held (Err cause) (inr failed) = inl failed

module _ (len : ℕ) (file : Option (Option (List ℕ))) (answer : Result (Vec ℕ Global) SequenceCause) (output : Option (List ℕ)) (folder read : FolderSeen) (out : SinkSeen) (after : Moment)
    (end : Result Ended SequenceCause) (status : ℕ) (is : status ≡ end_status end) (ends : Ends (report_seen answer) output (moment read out) after (end_status end))
    (reads : KeepsFiles folder read) where
  ended : Ends (report_seen answer) output (moment read out) after status
  ended = subst (Ends (report_seen answer) output (moment read out) after) (sym is) ends

  pub leaves : Leaves output (moment folder out) after status
  leaves = endings.leaves output folder read out after status (report_seen answer) reads ended

  module _ (gives : IfSome file (λ held. Gives (report_on (events_held len held)) answer)) (held : Option (List ℕ)) (told : file ≡ Some held) where
    gives_here : Gives (report_on (events_held len held)) answer
    gives_here = subst (λ f. IfSome f (λ h. Gives (report_on (events_held len h)) answer)) told gives

    pub runs : RunsAs status_of (IsReportDue len held) output (moment folder out) after status
    runs = endings.runs_as (report_once len held) output folder read out after status (report_seen answer) (is_called_for len held answer gives_here) ended

    -- what was written covers the sequences of the events
    pub covers : IfOk answer (λ text. IfSome file (λ h. CoversEvents len h text.items)) → status ≡ 0
        → (text : List ℕ) × CoversEvents len held text × IsWritten output text (moment folder out) after
    covers covering zero = let done = runs.done zero in (done.0, of answer covering gives_here ended done.0 done.1, done.2)
      where
        of : (answer : Result (Vec ℕ Global) SequenceCause) → IfOk answer (λ text. IfSome file (λ h. CoversEvents len h text.items))
            → Gives (report_on (events_held len held)) answer → Ends (report_seen answer) output (moment read out) after status
            → (text : List ℕ) → report_on (events_held len held) ≡ Ok text → CoversEvents len held text
        of (Ok found) covering gives ends text called =
            subst (CoversEvents len held) (one_ok gives called) (subst (λ f. IfSome f (λ h. CoversEvents len h found.items)) told covering)
        of (Err cause) covering (inl refused) ends text called = let differ : Err cause ≡ Ok text = sym refused ∙ called in absurd (cc)
        of (Err cause) covering (inr failed) (same, known, still) text called = absurd (omega (arith, zero, same, failed))

-- ---- a verdict

-- there is none, since there are no events
pub no_events : (file report : Option (Option (List ℕ))) (len : ℕ) (result : Result Verdict SequenceCause) (cause : SequenceCause) → IsErrAnd result (λ c. c ≡ cause)
    → IfSome file (λ held. IsDue (events_held len held) cause)
    → IfSome file (λ held. IfSome report (λ other. GivesVerdict (judgement_on other (events_held len held)) result))
no_events None report len result cause is due = tt
no_events (Some held) None len result cause is due = tt
no_events (Some held) (Some other) len (Ok found) cause is due = absurd is
no_events (Some held) (Some other) len (Err c) cause is due =
    subst (λ (c : SequenceCause). GivesVerdict (judgement_on other (events_held len held)) (Err c)) (sym is) (of (events_held len held) due)
  where
    of : (events : Result EventsView SequenceCause) → IsDue events cause → IsDue (judgement_on other events) cause
    of events (inl called) = inl (ap (judgement_on other) called)
    of events (inr failed) = inr failed

-- it is that on these events, where the report is read after them
pub on_events : (file report report_then : Option (Option (List ℕ))) (len : ℕ) (e : EventsView) (result : Result Verdict SequenceCause) → report_then ≡ report
    → IfSome file (λ held. events_held len held ≡ Ok e) → IfSome report_then (λ other. GivesVerdict (judgement_read e (bytes_held Report other)) result)
    → IfSome file (λ held. IfSome report (λ other. GivesVerdict (judgement_on other (events_held len held)) result))
on_events None report report_then len e result same spelled gives = tt
on_events (Some held) report report_then len e result same spelled gives =
    subst (λ events. IfSome report (λ other. GivesVerdict (judgement_on other events) result)) (sym spelled)
    (subst (λ r. IfSome r (λ other. GivesVerdict (judgement_on other (Ok e)) result)) same gives)

module _ (len : ℕ) (held other : Option (List ℕ)) (read : FolderSeen) (out : SinkSeen) (after : Moment) (status : ℕ) where
  judged_as : (answer : Result Verdict SequenceCause) → GivesVerdict (judgement_on other (events_held len held)) answer → Prints (verdict_seen answer) (moment read out) after status
      → JudgesAs status_of (IsJudgementDue len held other) out after.out status
  judged_as (Ok found) gives (shown, small, keeps) = let judgement = judgement_seen found in record {
    judged = λ low. elim shown [
      | inl (same, printed) ↦ (judgement, gives, same, printed)
      | inr three ↦ absurd (omega (arith, low, three))
    ];
    refused = λ two. elim shown [
      | inl (same, printed) ↦ absurd (omega (arith, two, same, small))
      | inr three ↦ absurd (omega (arith, two, three))
    ];
    judgement_comes = λ called is. elim shown [
      | inl (same, printed) ↦ inl (same ∙ ap (λ (j : Judgement). j.status) (one_ok gives is))
      | inr three ↦ inr three
    ];
    refusal_comes = λ cause is. let differ : Ok judgement ≡ Err cause = sym gives ∙ is in absurd (cc);
  }
  judged_as (Err cause) (inl called) (same, known, still) = record {
    judged = λ low. elim known [
      | inl two ↦ absurd (omega (arith, low, same, two))
      | inr three ↦ absurd (omega (arith, low, same, three))
    ];
    refused = λ two. (cause, called);
    judgement_comes = λ judgement is. let differ : Err cause ≡ Ok judgement = sym called ∙ is in absurd (cc);
    refusal_comes = λ found is. inl (same ∙ ap status_of (one_err called is));
  }
  judged_as (Err cause) (inr failed) (same, known, still) = record {
    judged = λ low. absurd (omega (arith, low, same, failed));
    refused = λ two. absurd (omega (arith, two, same, failed));
    judgement_comes = λ judgement is. inr (same ∙ failed);
    refusal_comes = λ found is. inr (same ∙ failed);
  }

module _ (answer : Result Verdict SequenceCause) (folder read : FolderSeen) (out : SinkSeen) (after : Moment) (end : Result Ended SequenceCause) (status : ℕ) (is : status ≡ end_status end)
    (printed : Prints (verdict_seen answer) (moment read out) after (end_status end)) where
  shown_as : Prints (verdict_seen answer) (moment read out) after status
  shown_as = subst (Prints (verdict_seen answer) (moment read out) after) (sym is) printed

  pub judges : (len : ℕ) (file report : Option (Option (List ℕ)))
      → IfSome file (λ held. IfSome report (λ other. GivesVerdict (judgement_on other (events_held len held)) answer))
      → (held other : Option (List ℕ)) → file ≡ Some held → report ≡ Some other → JudgesAs status_of (IsJudgementDue len held other) out after.out status
  judges len file report gives held other at at_report = judged_as len held other read out after status answer
      (subst (λ r. IfSome r (λ o. GivesVerdict (judgement_on o (events_held len held)) answer)) at_report
      (subst (λ f. IfSome f (λ h. IfSome report (λ o. GivesVerdict (judgement_on o (events_held len h)) answer))) at gives)) shown_as

  pub verdict_leaves : KeepsFiles folder read → Leaves None (moment folder out) after status
  verdict_leaves reads = of answer shown_as
    where
      of : (answer : Result Verdict SequenceCause) → Prints (verdict_seen answer) (moment read out) after status → Leaves None (moment folder out) after status
      of (Err cause) shown = endings.leaves None folder read out after status (Err (status_of cause)) reads shown
      of (Ok found) (shown, small, keeps) = record {
        known = elim shown [
          | inl (same, printed) ↦ omega (arith, same, small)
          | inr three ↦ omega (arith, three)
        ];
        others = λ name other. keeps name ∙ reads name;
        kept = λ fails. tt;
        unprinted = λ some. absurd (some refl);
        refused = λ two. elim shown [
          | inl (same, printed) ↦ absurd (omega (arith, two, same, small))
          | inr three ↦ absurd (omega (arith, two, three))
        ];
      }

-- ---- what a verdict that is called for says of the report

judged_for : (report : Option (List ℕ)) (events : Result EventsView SequenceCause) (judgement : Judgement) → judgement_on report events ≡ Ok judgement
    → (e : EventsView) × (events ≡ Ok e) × IsSomeAnd report (λ bytes. judgement ≡ judgement_of e (verdict e bytes))
judged_for report (Err cause) judgement is = absurd (cc)
judged_for None (Ok e) judgement is = absurd (cc)
judged_for (Some bytes) (Ok e) judgement is = (e, refl, go (cases_Bool (nat_lt (most_of Report) (length bytes))) is)
  where
    go : (nat_lt (most_of Report) (length bytes) ≡ true) ⊎ (nat_lt (most_of Report) (length bytes) ≡ false)
        → judgement_on (Some bytes) (Ok e) ≡ Ok judgement → judgement ≡ judgement_of e (verdict e bytes)
    go (inl long) = rw long (λ called. absurd (cc))
    go (inr short) = rw short (λ called. sym (one_ok refl called))

has_verdict : (len : ℕ) (held report : Option (List ℕ)) (status : ℕ) (P : OrderVerdict → Type 0) → ((v : OrderVerdict) → status ≡ verdict_status v → P v)
    → (judgement : Judgement) → IsJudgementDue len held report (Ok judgement) → status ≡ judgement.status → HasVerdict len held report P
has_verdict len held report status P says judgement due same =
    let it = judged_for report (events_held len held) judgement due in (it.0, it.1, of report it.0 it.2)
  where
    of : (report : Option (List ℕ)) (e : EventsView) → IsSomeAnd report (λ bytes. judgement ≡ judgement_of e (verdict e bytes))
        → IsSomeAnd report (λ bytes. P (verdict e bytes))
    of None e none = absurd none
    of (Some bytes) e is = says (verdict e bytes) (same ∙ ap (λ (j : Judgement). j.status) is)

accepted_at : (v : OrderVerdict) → 0 ≡ verdict_status v → IsAccepted v
accepted_at (Accepted rows omissions) is = tt
accepted_at (BadLine line) is = absurd (omega (arith, is))
accepted_at (Uncovered sequence) is = absurd (omega (arith, is))

refused_at : (v : OrderVerdict) → 1 ≡ verdict_status v → ¬ (IsAccepted v)
refused_at (Accepted rows omissions) is = absurd (omega (arith, is))
refused_at (BadLine line) is = λ none. none
refused_at (Uncovered sequence) is = λ none. none

module _ (len : ℕ) (held report : Option (List ℕ)) (before after : SinkSeen) (status : ℕ) (judges_as : JudgesAs status_of (IsJudgementDue len held report) before after status) where
  pub accepts : status ≡ 0 → HasVerdict len held report IsAccepted
  accepts zero = let it = judges_as.judged (omega (arith, zero)) in
      has_verdict len held report status IsAccepted (λ v is. accepted_at v (sym zero ∙ is)) it.0 it.1 it.2

  pub refuses : status ≡ 1 → HasVerdict len held report (λ v. ¬ (IsAccepted v))
  refuses one = let it = judges_as.judged (omega (arith, one)) in
      has_verdict len held report status (λ v. ¬ (IsAccepted v)) (λ v is. refused_at v (sym one ∙ is)) it.0 it.1 it.2
