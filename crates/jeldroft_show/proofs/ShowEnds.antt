-- How `show` ends, from its answer and from the end of the writing of it.
use Rattle.std.proofs.Common.{◌≡◌, ◌≤◌, ℕ, Bool, true, false, List, Option, Result, Ok, Err, inl, inr, refl, ap, sym, subst, ◌∙◌, arith}
use Rattle.outside_io.specs.believed.Seen.{FolderSeen, SinkSeen, KeepsFiles}
use Rattle.jeldroft_files.specs.believed.Failures.{status_of}
use Rattle.jeldroft_files.specs.Runs.{Ends, Writes, end_status}
use Rattle.jeldroft_files.specs.believed.Runs.{Leaves, Moment, moment}
use Rattle.jeldroft_files.proofs.Ending.{leaves, written_since}
use Rattle.jeldroft_files.specs.declared.failure.Cause.{Cause}
use Rattle.jeldroft_files.specs.declared.failure.Failure.{Failure}
use Rattle.jeldroft_files.proofs.Statuses.{cause_known}
use Rattle.jeldroft_show.specs.believed.Shows.{LeavesShown, Shown, ShowsAs, status_with}
use Rattle.jeldroft_show.specs.Steps.{IsCalledFor, IsSameAnswer, answer_seen, shown_by, status_shown}
use Rattle.jeldroft_show.specs.declared.answer.Answer.{Answer}
use Rattle.value_text.proofs.ListLemmas.{one_ok, ok-err, one_err}

-- ---- statuses

with_text : (accepted : Bool) → status_with accepted ≤ 1
with_text true = omega arith
with_text false = omega arith

module _ (Due : Result Shown Cause → Type 0) (output : Option (List ℕ)) (first before after : Moment) (prints : before.out ≡ first.out)
    (once : (due other : Result Shown Cause) → Due due → Due other → due ≡ other) where
  -- memory or a device failed
  failed : (status : ℕ) → status ≡ 3 → ShowsAs Due output first after status
  failed status three = record {
    done = λ low. absurd (omega (arith, low, three));
    refused = λ two. absurd (omega (arith, two, three));
    text_comes = λ shown called. inr three;
    refusal_comes = λ cause called. inr three;
  }

  -- the text was written
  written : (answer : Answer) → Due (Ok (shown_by answer)) → Writes answer.text.items output before after 0 → ShowsAs Due output first after (status_with answer.accepted)
  written answer due writes = record {
    done = λ low. (shown_by answer, due, refl, written_since output answer.text.items first before after prints (writes.written refl));
    refused = λ two. absurd (omega (arith, two, with_text answer.accepted));
    text_comes = λ shown called. inl (ap (λ (s : Shown). status_with s.accepted) (one_ok refl (once (Ok (shown_by answer)) (Ok shown) due called)));
    refusal_comes = λ cause called. absurd (ok-err _ _ refl (once (Ok (shown_by answer)) (Err cause) due called));
  }

  -- the files are refused
  ended : (cause : Cause) → Due (Err cause) → ShowsAs Due output first after (status_of cause)
  ended cause due = elim (cause_known cause) [
    | inr three ↦ failed (status_of cause) three
    | inl two ↦
        record {
          done = λ low. absurd (omega (arith, low, two));
          refused = λ _. (cause, due);
          text_comes = λ shown called. absurd (ok-err _ _ refl (once (Ok shown) (Err cause) called due));
          refusal_comes = λ other called. inl (ap status_of (one_err refl (once (Err cause) (Err other) due called)));
        }
  ]

  pub shows : (answer end : Result Answer Failure) → IsCalledFor Due answer → Ends (answer_seen answer) output before after (end_status end) → IsSameAnswer answer end
      → ShowsAs Due output first after (status_shown end)
  shows answer (Ok written_one) called ends same =
      written written_one (subst (IsCalledFor Due) same called) (subst (λ given. Ends (answer_seen given) output before after 0) same ends)
  shows (Ok answer) (Err failure) called ends same = elim ends.known [
    | inr three ↦ failed (status_of failure.cause) three
    | inl zero ↦
        elim (cause_known failure.cause) [
          | inl two ↦ absurd (omega (arith, zero, two))
          | inr three ↦ absurd (omega (arith, zero, three))
        ]
  ]
  shows (Err given) (Err failure) (inl three) ends same = failed (status_of failure.cause) (ends.0 ∙ three)
  shows (Err given) (Err failure) (inr due) ends same = subst (ShowsAs Due output first after) (sym ends.0) (ended given.cause due)

-- ---- what it leaves as it was

with_status : {output : Option (List ℕ)} {first after : Moment} (end : Result Answer Failure) → Leaves output first after (end_status end)
    → LeavesShown output first after (status_shown end)
with_status (Ok answer) leaves = record {
  known = omega (arith, with_text answer.accepted);
  others = leaves.others;
  kept = λ two. absurd (omega (arith, two, with_text answer.accepted));
  unprinted = leaves.unprinted;
  refused = λ two. absurd (omega (arith, two, with_text answer.accepted));
}
with_status (Err failure) leaves = record {
  known = leaves.known;
  others = leaves.others;
  kept = λ two. leaves.kept (λ zero. omega (arith, zero, two));
  unprinted = leaves.unprinted;
  refused = leaves.refused;
}

pub leaves_shown : (output : Option (List ℕ)) (folder read : FolderSeen) (out : SinkSeen) (after : Moment) (answer end : Result Answer Failure) → KeepsFiles folder read
    → Ends (answer_seen answer) output (moment read out) after (end_status end) → LeavesShown output (moment folder out) after (status_shown end)
leaves_shown output folder read out after answer end reads ends =
    with_status end (leaves output folder read out after (end_status end) (answer_seen answer) reads ends)
