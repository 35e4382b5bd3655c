-- What is known of a run from how it ended.
use Rattle.std.proofs.Common.{◌≡◌, ◌⊎◌, ℕ, Bool, true, false, List, length, Option, Some, None, Result, Ok, Err, inl, inr, refl, sym, ap, subst, ◌∙◌, nat_lt}
use Rattle.std.specs.Prelude.{IfSome, IsSomeAnd}
use Rattle.std.specs.declared.vec.Vec.{Vec}
use Rattle.std.specs.declared.alloc.Global.{Global}
use Rattle.std.proofs.lemmas.Bool.{cases_Bool}
use Rattle.outside_io.specs.believed.Seen.{FolderSeen, KeepsFiles, SinkSeen}
use Rattle.definitions.specs.believed.Limits.{ModelFile, most_bytes}
use Rattle.acts_front.specs.believed.SameModels.{IsFaithful}
use Rattle.acts_front.specs.believed.Translation.{translation}
use Rattle.acts_front.specs.declared.code.ActsCode.{ActsCode}
use Rattle.acts_front.proofs.SayTheSame.{faithful}
use Rattle.value_text.proofs.ListLemmas.{one_err, one_ok}
use Rattle.jeldroft_files.specs.Runs.{Ends, IsCalledFor, IsDueOnce}
use Rattle.jeldroft_files.specs.believed.Runs.{IsWritten, Leaves, Moment, RunsAs, moment}
use Rattle.jeldroft_files.proofs.Ending as endings
use Rattle.jeldroft_import.specs.believed.Imports.{Due, called_for, status_of, text_of}
use Rattle.jeldroft_import.specs.Steps.{Gives, answer_seen, end_status}
use Rattle.jeldroft_import.specs.declared.cause.ImportCause.{ImportCause}

-- ---- what a file calls for

-- one thing
due_once : (fold : Bool) (held : Option (List ℕ)) → IsDueOnce status_of (Due fold held)
due_once fold held = record {
  not_both = λ text cause text_is cause_is. let differ : Ok text ≡ Err cause = sym text_is ∙ cause_is in cc;
  one_status = λ one other one_is other_is. ap status_of (one_err one_is other_is);
}

-- a translation that gives a text
translated : (answer : Result (List ℕ) (ℕ × ActsCode)) (text : List ℕ) → text_of answer ≡ Ok text → answer ≡ Ok text
translated (Ok found) text is = ap Ok (one_ok refl is)
translated (Err refused) text is = absurd (cc)

-- a text that says what the file says
called_faithful : (fold : Bool) (held : Option (List ℕ)) (text : List ℕ) → called_for fold held ≡ Ok text → IsSomeAnd held (λ bytes. IsFaithful fold bytes text)
called_faithful fold None text is = absurd (cc)
called_faithful fold (Some bytes) text is = go (cases_Bool (nat_lt (most_bytes ModelFile) (length bytes))) is
  where
    go : (nat_lt (most_bytes ModelFile) (length bytes) ≡ true) ⊎ (nat_lt (most_bytes ModelFile) (length bytes) ≡ false)
        → called_for fold (Some bytes) ≡ Ok text → IsFaithful fold bytes text
    go (inl long) = rw long (λ called. absurd (cc))
    go (inr short) = rw short (λ called. faithful fold bytes text (translated (translation fold bytes) text called))

-- ---- a run that ended

-- its answer is what the file calls for
is_called_for : (fold : Bool) (held : Option (List ℕ)) (answer : Result (Vec ℕ Global) ImportCause) → Gives (called_for fold held) answer
    → IsCalledFor status_of (Due fold held) (answer_seen answer)
is_called_for fold held (Ok text) gives = gives
is_called_for fold held (Err cause) (inl called) = inr (cause, called, refl)
is_called_for fold held (Err cause) (inr failed) = inl failed

module _ (fold : Bool) (file : Option (Option (List ℕ))) (answer : Result (Vec ℕ Global) ImportCause) (output : Option (List ℕ)) (folder read : FolderSeen) (out : SinkSeen) (after : Moment)
    (end : Result (Unit {0}) ImportCause) (status : ℕ) (is : status ≡ end_status end) (ends : Ends (answer_seen answer) output (moment read out) after (end_status end))
    (reads : KeepsFiles folder read) where
  ended : Ends (answer_seen answer) output (moment read out) after status
  ended = subst (Ends (answer_seen answer) output (moment read out) after) (sym is) ends

  pub leaves : Leaves output (moment folder out) after status
  leaves = endings.leaves output folder read out after status (answer_seen answer) reads ended

  module _ (gives : IfSome file (λ held. Gives (called_for fold held) answer)) (held : Option (List ℕ)) (told : file ≡ Some held) where
    pub runs : RunsAs status_of (Due fold held) output (moment folder out) after status
    runs = endings.runs_as (due_once fold held) output folder read out after status (answer_seen answer)
        (is_called_for fold held answer (subst (λ f. IfSome f (λ h. Gives (called_for fold h) answer)) told gives)) ended

    -- what was written says what the file says
    pub meaning : status ≡ 0 → IsSomeAnd held (λ bytes. (text : List ℕ) × IsFaithful fold bytes text × IsWritten output text (moment folder out) after)
    meaning zero = let done = runs.done zero in of held done.0 (called_faithful fold held done.0 done.1) done.2
      where
        of : (held : Option (List ℕ)) (text : List ℕ) → IsSomeAnd held (λ bytes. IsFaithful fold bytes text) → IsWritten output text (moment folder out) after
            → IsSomeAnd held (λ bytes. (t : List ℕ) × IsFaithful fold bytes t × IsWritten output t (moment folder out) after)
        of None text none written = absurd none
        of (Some bytes) text says written = (text, says, written)
