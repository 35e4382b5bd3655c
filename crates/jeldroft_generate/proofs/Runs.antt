-- What a run does that has its answer, and what it leaves.
use Rattle.std.proofs.Common.{◌≡◌, ℕ, ◌⊎◌, List, Option, None, Some, Result, Ok, Err, inl, inr, refl, ap, sym, subst, ◌∙◌, arith}
use Rattle.std.specs.Prelude.{◌≢◌, IfSome, IsSomeAnd}
use Rattle.value_text.proofs.ListLemmas.{one_ok}
use Rattle.outside_io.specs.believed.Seen.{FolderSeen, SinkSeen, KeepsFiles}
use Rattle.jeldroft_args.specs.declared.generate.Generate.{Generate}
use Rattle.jeldroft_files.specs.believed.Failures.{status_of}
use Rattle.jeldroft_files.specs.believed.Runs.{Moment, moment}
use Rattle.jeldroft_files.specs.declared.failure.Cause.{Cause}
use Rattle.jeldroft_files.specs.declared.failure.Failure.{Failure}
use Rattle.jeldroft_files.proofs.Statuses.{cause_known}
use Rattle.jeldroft_files.proofs.Ending.{kept_by, kept_since, written_since}
use Rattle.jeldroft_generate.specs.believed.Asked.{proof_name}
use Rattle.jeldroft_generate.specs.Due.{Answers, IsMadeOf}
use Rattle.jeldroft_generate.specs.believed.Due.{CallsFor, Held, IsProof, Start, start_of}
use Rattle.jeldroft_generate.specs.believed.Given.{and_then}
use Rattle.jeldroft_generate.specs.Runs.{Finishes}
use Rattle.jeldroft_generate.specs.believed.Runs.{Generates, Leaves}
use Rattle.jeldroft_generate.specs.declared.made.Made.{Made}
use Rattle.jeldroft_generate.proofs.Reading.{one_model}
use Rattle.jeldroft_generate.proofs.Since.{if_some_then, same_kept}

pub not_zero : (cause : Cause) (status : ℕ) → status ≡ status_of cause → status ≢ 0
not_zero cause status is zero = elim (cause_known cause) [
  | inl two ↦ omega (arith, is, zero, two)
  | inr three ↦ omega (arith, is, zero, three)
]

-- files call for one thing
one_due : (args : Generate) (held : Held) (one other : Result Start Cause) → CallsFor args held one → CallsFor args held other → one ≡ other
one_due args held one other is too = is.is ∙ ap (λ given. and_then given (start_of args held.seeds)) (one_model _ held.model is.given too.given is.gives too.gives) ∙ sym too.is

-- the proof file
pub proof_of : (proof : Option (List ℕ)) (P : List ℕ → Type 0) (text : List ℕ) (after : FolderSeen) → P text → IfSome proof (λ name. IfSome (after.files name) (λ held. held ≡ Some text))
    → IfSome proof (λ name. IfSome (after.files name) (λ held. IsSomeAnd held P))
proof_of None P text after is holds = tt
proof_of (Some name) P text after is holds =
    if_some_then (λ held. held ≡ Some text) (λ held. IsSomeAnd held P) (after.files name) (λ held e. subst (λ h. IsSomeAnd h P) (sym e) is) holds

old_or_proof : (proof : Option (List ℕ)) (P : List ℕ → Type 0) (text : List ℕ) (folder read after : FolderSeen) → KeepsFiles folder read → P text
    → IfSome proof (λ name. IfSome (after.files name) (λ held. (read.files name ≡ Some held) ⊎ (held ≡ Some text)))
    → IfSome proof (λ name. IfSome (after.files name) (λ held. (folder.files name ≡ Some held) ⊎ IsSomeAnd held P))
old_or_proof None P text folder read after keeps is holds = tt
old_or_proof (Some name) P text folder read after keeps is holds =
    if_some_then (λ held. (read.files name ≡ Some held) ⊎ (held ≡ Some text)) (λ held. (folder.files name ≡ Some held) ⊎ IsSomeAnd held P) (after.files name)
    (λ held either. elim either [ inl old ↦ inl (sym (keeps name) ∙ old) | inr new ↦ inr (subst (λ h. IsSomeAnd h P) (sym new) is) ]) holds

old_proof : (proof : Option (List ℕ)) (P : List ℕ → Type 0) (folder after : FolderSeen) → KeepsFiles folder after
    → IfSome proof (λ name. IfSome (after.files name) (λ held. (folder.files name ≡ Some held) ⊎ IsSomeAnd held P))
old_proof None P folder after keeps = tt
old_proof (Some name) P folder after keeps =
    if_some_then (λ held. folder.files name ≡ Some held) (λ held. (folder.files name ≡ Some held) ⊎ IsSomeAnd held P) (after.files name) (λ held is. inl is)
    (same_kept (folder.files name) (after.files name) (keeps name))

module _ (args : Generate) (folder read : FolderSeen) (out : SinkSeen) (after : Moment) (status : ℕ) (keeps : KeepsFiles folder read) where
  nothing_changed : after ≡ moment read out → KeepsFiles folder after.folder
  nothing_changed same = λ name. ap (λ (m : Moment). m.folder.files name) same ∙ keeps name

  pub generates : (held : Held) (result : Result Made Failure) → Answers (CallsFor args held) (IsMadeOf args) result
      → Finishes result (proof_name args) args.output (moment read out) after status → Generates args held (moment folder out) after status
  generates held (Ok made) (start, called, is) ends = record {
    done = λ zero. (
      start,
      called,
      record {
        table = made.table.items;
        is = is.table;
        written = written_since args.output made.table.items (moment folder out) (moment read out) after refl (ends.written zero);
      },
      λ apart. proof_of (proof_name args) (IsProof args start) made.proof.items after.folder is.proof (ends.proof_written zero apart),
    );
    refused = λ two. elim ends.known [
      | inl zero ↦ absurd (omega (arith, zero, two))
      | inr three ↦ absurd (omega (arith, three, two))
    ];
    suite_comes = λ other due. ends.known;
    refusal_comes = λ cause due. let no : Ok start ≡ Err cause = one_due args held (Ok start) (Err cause) called due in absurd (let wrong : ⊥ = cc in wrong);
    proof_kept = λ other due apart.
        let same : start ≡ other = one_ok refl (one_due args held (Ok start) (Ok other) called due) in
        old_or_proof (proof_name args) (IsProof args other) made.proof.items folder read after.folder keeps (subst (λ s. IsProof args s made.proof.items) same is.proof) (ends.proof_kept apart);
  }
  generates held (Err failure) answers ends = record {
    done = λ zero. absurd (not_zero failure.cause status ends.0 zero);
    refused = λ two. elim answers [
      | inl three ↦ absurd (omega (arith, three, two, ends.0))
      | inr called ↦ (failure.cause, called)
    ];
    suite_comes = λ start due. elim answers [
      | inl three ↦ inr (ends.0 ∙ three)
      | inr called ↦ let no : Err failure.cause ≡ Ok start = one_due args held (Err failure.cause) (Ok start) called due in absurd (let wrong : ⊥ = cc in wrong)
    ];
    refusal_comes = λ cause due. elim answers [
      | inl three ↦ inr (ends.0 ∙ three)
      | inr called ↦ inl (ends.0 ∙ ap (λ (r : Result Start Cause). status_in r) (one_due args held (Err failure.cause) (Err cause) called due))
    ];
    proof_kept = λ start due apart. old_proof (proof_name args) (IsProof args start) folder after.folder (nothing_changed ends.1);
  }
    where
      status_in : Result Start Cause → ℕ
      status_in (Ok start) = 0
      status_in (Err cause) = status_of cause

  pub leaves : (result : Result Made Failure) → Finishes result (proof_name args) args.output (moment read out) after status → Leaves args (moment folder out) after status
  leaves (Ok made) ends = record {
    known = elim ends.known [
      | inl zero ↦ omega (arith, zero)
      | inr three ↦ omega (arith, three)
    ];
    others = λ name elsewhere unproved. ends.others name elsewhere unproved ∙ keeps name;
    kept = λ fails apart. kept_since args.output folder read after.folder keeps (ends.kept fails apart);
    unprinted = ends.unprinted;
    refused = λ two. elim ends.known [
      | inl zero ↦ absurd (omega (arith, zero, two))
      | inr three ↦ absurd (omega (arith, three, two))
    ];
  }
  leaves (Err failure) ends = record {
    known = elim (cause_known failure.cause) [
      | inl two ↦ omega (arith, two, ends.0)
      | inr three ↦ omega (arith, three, ends.0)
    ];
    others = λ name elsewhere unproved. nothing_changed ends.1 name;
    kept = λ fails apart. kept_by args.output folder after.folder (nothing_changed ends.1);
    unprinted = λ file. ap (λ (m : Moment). m.out) ends.1;
    refused = λ two. record { out = ap (λ (m : Moment). m.out) ends.1; files = nothing_changed ends.1 };
  }
