-- What a command does that reads files, and then ends with its answer.
use Rattle.std.proofs.Common.{◌≡◌, ℕ, List, Option, Some, None, Result, Ok, Err, inl, inr, ap, sym, subst, ◌∙◌, arith, refl}
use Rattle.std.specs.Prelude.{IfSome}
use Rattle.outside_io.specs.believed.Seen.{FolderSeen, SinkSeen, KeepsFiles}
use Rattle.jeldroft_files.specs.Runs.{Ends, IsCalledFor, IsDueOnce}
use Rattle.jeldroft_files.specs.believed.Runs.{IsWritten, KeepsFile, Leaves, Moment, RunsAs, moment, IsPrinted}

-- ---- files that were only read before

pub written_since : (output : Option (List ℕ)) (text : List ℕ) (first before after : Moment) → before.out ≡ first.out → IsWritten output text before after
    → IsWritten output text first after
written_since (Some name) text first before after same written = (written.0 ∙ same, written.1)
written_since None text first before after same written = subst (λ out. IsPrinted text out after.out) same written

pub kept_since : (output : Option (List ℕ)) (first before after : FolderSeen) → KeepsFiles first before → IfSome output (λ name. KeepsFile name before after)
    → IfSome output (λ name. KeepsFile name first after)
kept_since None first before after reads kept = tt
kept_since (Some name) first before after reads kept = subst (λ file. IfSome (after.files name) (λ held. file ≡ Some held)) (reads name) kept

-- a file that holds what it held
pub kept_by : (output : Option (List ℕ)) (before after : FolderSeen) → KeepsFiles before after → IfSome output (λ name. KeepsFile name before after)
kept_by None before after keeps = tt
kept_by (Some name) before after keeps = go (after.files name) (keeps name)
  where
    go : (file : Option (Option (List ℕ))) → file ≡ before.files name → IfSome file (λ held. before.files name ≡ Some held)
    go None same = tt
    go (Some held) same = sym same

-- ---- the end

-- what such a command leaves as it was: `read` is the folder once the files were read, `status` that of `end_with`
pub leaves : (output : Option (List ℕ)) (folder read : FolderSeen) (out : SinkSeen) (after : Moment) (status : ℕ) (answer : Result (List ℕ) ℕ)
    → KeepsFiles folder read → Ends answer output (moment read out) after status → Leaves output (moment folder out) after status
leaves output folder read out after status (Ok text) reads ends = record {
  known = elim ends.known [
    | inl zero ↦ omega (arith, zero)
    | inr three ↦ omega (arith, three)
  ];
  others = λ name other. ends.others name other ∙ reads name;
  kept = λ fails. kept_since output folder read after.folder reads (ends.kept fails);
  unprinted = ends.unprinted;
  refused = λ two. elim ends.known [
    | inl zero ↦ absurd (omega (arith, zero, two))
    | inr three ↦ absurd (omega (arith, three, two))
  ];
}
leaves output folder read out after status (Err given) reads (same, known, still) = record {
  known = elim known [
    | inl two ↦ omega (arith, same, two)
    | inr three ↦ omega (arith, same, three)
  ];
  others = λ name other. keeps name;
  kept = λ fails. kept_by output folder after.folder keeps;
  unprinted = λ file. ap (λ (m : Moment). m.out) still;
  refused = λ two. record { out = ap (λ (m : Moment). m.out) still; files = keeps };
}
  where
    keeps : KeepsFiles folder after.folder
    keeps = λ name. ap (λ (m : Moment). m.folder.files name) still ∙ reads name

-- what such a command does, where its answer is what the files call for
pub runs_as : {Cause : Type 0} {status_of : Cause → ℕ} {Due : Result (List ℕ) Cause → Type 0} → IsDueOnce status_of Due
    → (output : Option (List ℕ)) (folder read : FolderSeen) (out : SinkSeen) (after : Moment) (status : ℕ) (answer : Result (List ℕ) ℕ)
    → IsCalledFor status_of Due answer → Ends answer output (moment read out) after status → RunsAs status_of Due output (moment folder out) after status
runs_as once output folder read out after status (Ok text) due ends = record {
  done = λ zero. (text, due, written_since output text (moment folder out) (moment read out) after refl (ends.written zero));
  refused = λ two. elim ends.known [
    | inl zero ↦ absurd (omega (arith, zero, two))
    | inr three ↦ absurd (omega (arith, three, two))
  ];
  text_comes = λ other called. ends.known;
  refusal_comes = λ cause called. absurd (once.not_both text cause due called);
}
runs_as once output folder read out after status (Err given) (inl failed) (same, known, still) = record {
  done = λ zero. absurd (omega (arith, zero, same, failed));
  refused = λ two. absurd (omega (arith, two, same, failed));
  text_comes = λ text called. inr (same ∙ failed);
  refusal_comes = λ cause called. inr (same ∙ failed);
}
runs_as once output folder read out after status (Err given) (inr (cause, due, is)) (same, known, still) = record {
  done = λ zero. elim known [
    | inl two ↦ absurd (omega (arith, zero, same, two))
    | inr three ↦ absurd (omega (arith, zero, same, three))
  ];
  refused = λ two. (cause, due);
  text_comes = λ text called. absurd (once.not_both text cause called due);
  refusal_comes = λ other called. inl (same ∙ is ∙ once.one_status cause other due called);
}
