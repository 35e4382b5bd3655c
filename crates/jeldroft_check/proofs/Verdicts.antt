-- The verdict on the three files, from the bytes of each.
use Rattle.std.proofs.Common.{◌≡◌, ℕ, List, Option, Some, None, Result, Ok, Err, inl, inr, refl, ap, subst, ◌∙◌}
use Rattle.outside_io.specs.believed.Seen.{FolderSeen, KeepsFiles}
use Rattle.definitions.specs.believed.Verdict.{verdict}
use Rattle.model_lex.specs.declared.options.ModelOpts.{ModelOpts}
use Rattle.command_line.specs.believed.Stops.{stop_of_model, stop_of_plan}
use Rattle.command_line.specs.Stops.{stop_of_rows}
use Rattle.command_line.specs.declared.stop.Stop.{Stop}
use Rattle.command_line.specs.declared.files.FileKind.TheVariants as kinds
use Rattle.proof_check.specs.Checks.{IsCheckOf}
use Rattle.proof_check.specs.declared.verdict.CheckFault.{CheckFault}
use Rattle.proof_check.specs.declared.verdict.CheckFault.TheVariants.{BadModel, Limits, Report, NoMemory}
use Rattle.proof_check.specs.declared.verdict.Verdict.{Verdict}
use Rattle.check_cli.specs.RunSteps.{stop_of_check}
use Rattle.check_cli.specs.believed.Runs.{HeldFiles, Inputs, bytes_of}
use Rattle.check_cli.proofs.RunEnds.{same_report}
use Rattle.jeldroft_args.specs.declared.check.Check.{Check}
use Rattle.jeldroft_files.specs.believed.Failures.{status_of}
use Rattle.jeldroft_files.specs.believed.Models.{opts_of}
use Rattle.jeldroft_files.specs.believed.Tables.{is_comma}
use Rattle.jeldroft_files.specs.declared.failure.Cause.{Cause}
use Rattle.jeldroft_files.specs.declared.failure.Cause.TheVariants as causes
use Rattle.jeldroft_files.specs.declared.failure.Failure.{Failure}
use Rattle.jeldroft_check.specs.believed.Runs.{Due, Holds, IsRefused, bad_model, bad_table, in_tabs, inputs_of, join_bytes, or_cause, proof_told, too_many, unjudged, unread}
use Rattle.jeldroft_check.specs.Steps.{Answers, FailsBy, Judges, end_seen}

-- ---- bytes that are judged

-- a check that ends without a verdict
pub stops : (opts : ModelOpts) (inputs : Inputs) (fault : CheckFault) (cause : Cause) → IsCheckOf opts inputs.model inputs.report inputs.proof (Err fault)
    → cause ≡ causes.Stop (stop_of_check fault) → FailsBy (λ cause. (stop : Stop) × IsRefused opts inputs stop × (cause ≡ causes.Stop stop)) cause
stops opts inputs (BadModel fault) cause refusal is = inr (stop_of_model fault, bad_model fault refusal.0 refl, is)
stops opts inputs (Limits fault) cause (m, spelled, passed) is = inr (stop_of_plan fault, too_many m fault spelled passed refl, is)
stops opts inputs (Report fault) cause (m, spelled, within, given, same, refused) is =
    inr (stop_of_rows fault, bad_table m given spelled within refused (same_report fault given same), is)
stops opts inputs NoMemory cause nothing is = inl (ap status_of is)

-- the same bytes
pub same_judged : (opts : ModelOpts) (end : Result Verdict Failure) {model table proof model' table' proof' : List ℕ} → model ≡ model' → table ≡ table' → proof ≡ proof'
    → Judges opts (record { model = model; report = table; proof = proof }) end → Judges opts (record { model = model'; report = table'; proof = proof' }) end
same_judged opts end {model} {table} {proof} {model'} {table'} {proof'} a b c is =
    subst (λ p. Judges opts (record { model = model'; report = table'; proof = p }) end) c
    (subst (λ t. Judges opts (record { model = model'; report = t; proof = proof }) end) b
    (subst (λ m. Judges opts (record { model = m; report = table; proof = proof }) end) a is))

-- an end with the same verdict, or the same cause
pub same_answer : (args : Check) (held : HeldFiles) (end other : Result Verdict Failure) → end_seen other ≡ end_seen end → Answers args held end → Answers args held other
same_answer args held (Ok given) (Ok same) is (due, called, holds) = let e : same ≡ given = cc in (due, called, e ∙ holds)
same_answer args held (Ok given) (Err failure) is answers = cc
same_answer args held (Err failure) (Ok given) is answers = cc
same_answer args held (Err failure) (Err same) is fails = let e : failure.cause ≡ same.cause = cc in subst (FailsBy (λ cause. Due args held (Err cause))) e fails

-- ---- files that are read

proof_kept : (before after : FolderSeen) (name : Option (List ℕ)) {held : Option (List ℕ)} → KeepsFiles before after → proof_told before.files name ≡ Some held
    → proof_told after.files name ≡ Some held
proof_kept before after None keeps is = is
proof_kept before after (Some name) keeps is = keeps name ∙ is

-- files that stay are told as before
pub holds_after : (before after : FolderSeen) (args : Check) (held : HeldFiles) → KeepsFiles before after → Holds before.files args held → Holds after.files args held
holds_after before after args held keeps holds = record {
  model = keeps args.model.name ∙ holds.model;
  report = keeps args.table ∙ holds.report;
  proof = proof_kept before after args.proof keeps holds.proof;
}

module _ (args : Check) (held : HeldFiles) where
  abbrev model_bytes : Result (List ℕ) Cause
  model_bytes = or_cause (bytes_of kinds.Model held.model)

  abbrev table_bytes : Result (List ℕ) Cause
  table_bytes = in_tabs (is_comma args.delimiter args.table) (bytes_of kinds.Rows held.report)

  abbrev proof_bytes : Result (List ℕ) Cause
  proof_bytes = or_cause (bytes_of kinds.Proof held.proof)

  joined : {model table : List ℕ} → model_bytes ≡ Ok model → table_bytes ≡ Ok table → inputs_of args held ≡ join_bytes (Ok model) (Ok table) proof_bytes
  joined {model} {table} a b = ap (λ r. join_bytes r table_bytes proof_bytes) a ∙ ap (λ r. join_bytes (Ok model) r proof_bytes) b

  -- the proof isn't read
  pub no_proof : (model table : List ℕ) (cause : Cause) → model_bytes ≡ Ok model → table_bytes ≡ Ok table → FailsBy (λ cause. proof_bytes ≡ Err cause) cause
      → FailsBy (λ cause. Due args held (Err cause)) cause
  no_proof model table cause a b (inl three) = inl three
  no_proof model table cause a b (inr failed) = inr (unread (joined a b ∙ ap (join_bytes (Ok model) (Ok table)) failed))

  -- all three are read, and judged
  pub judged : (model table proof : List ℕ) (end : Result Verdict Failure) → model_bytes ≡ Ok model → table_bytes ≡ Ok table → proof_bytes ≡ Ok proof
      → Judges (opts_of args.model args.strength) (record { model = model; report = table; proof = proof }) end → Answers args held end
  judged model table proof (Ok given) a b c is = (
    verdict is.model is.report.rows proof,
    (
      record { model = model; report = table; proof = proof },
      joined a b ∙ ap (join_bytes (Ok model) (Ok table)) c,
      record { model = is.model; spelled = is.spelled; within = is.within; report = is.report; reported = is.reported; holds = refl },
    ),
    is.holds,
  )
  judged model table proof (Err failure) a b c (inl three) = inl three
  judged model table proof (Err failure) a b c (inr (stop, refused, is)) =
      inr (unjudged (record { model = model; report = table; proof = proof }) stop (joined a b ∙ ap (join_bytes (Ok model) (Ok table)) c) refused is)
