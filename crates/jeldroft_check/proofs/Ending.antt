-- How the command ends, and what its status tells.
use Rattle.std.proofs.Common.{◌≡◌, ◌⊎◌, ℕ, Result, Ok, Err, inl, inr, refl, ap, sym, subst, ◌∙◌, arith}
use Rattle.outside_io.specs.believed.Seen.{SinkSeen}
use Rattle.definitions.specs.believed.Laws.{IsCertified}
use Rattle.definitions.specs.believed.Verdict as defined
use Rattle.definitions.proofs.Certified.{certified}
use Rattle.proof_check.specs.believed.Checks.{verdict_given}
use Rattle.proof_check.specs.declared.verdict.Verdict.{Verdict}
use Rattle.check_cli.specs.believed.Runs.{HeldFiles}
use Rattle.check_cli.specs.Runs.{answer_text}
use Rattle.check_cli.proofs.RunEnds.{text_told}
use Rattle.jeldroft_args.specs.declared.check.Check.{Check}
use Rattle.jeldroft_files.specs.believed.Runs.{IsPrinted, Moment}
use Rattle.jeldroft_files.specs.declared.failure.Failure.{Failure}
use Rattle.jeldroft_files.proofs.Statuses.{cause_known}
use Rattle.jeldroft_check.specs.believed.Runs.{ChecksAs, Due, HasReadings, verdict_status}
use Rattle.jeldroft_check.specs.Steps.{Answers, Ends, answer_status, end_status}
use Rattle.jeldroft_check.proofs.OneVerdict.{not_both, one_status, one_verdict}

-- ---- a verdict as the program has it, and as it is defined

status_told : (v : defined.Verdict) → answer_status (verdict_given v) ≡ verdict_status v
status_told (defined.Accepted rows omissions) = refl
status_told (defined.BadRow line) = refl
status_told (defined.BadProof line) = refl
status_told (defined.BadOmission line) = refl
status_told (defined.Uncovered tuple) = refl

accepted_zero : (v : defined.Verdict) → verdict_status v ≡ 0 → (rows : ℕ) × (omissions : ℕ) × (v ≡ defined.Accepted rows omissions)
accepted_zero (defined.Accepted rows omissions) zero = (rows, omissions, refl)
accepted_zero (defined.BadRow line) zero = absurd (omega (arith, zero))
accepted_zero (defined.BadProof line) zero = absurd (omega (arith, zero))
accepted_zero (defined.BadOmission line) zero = absurd (omega (arith, zero))
accepted_zero (defined.Uncovered tuple) zero = absurd (omega (arith, zero))

two_at_most : (v : defined.Verdict) → (verdict_status v ≡ 0) ⊎ (verdict_status v ≡ 1)
two_at_most (defined.Accepted rows omissions) = inl refl
two_at_most (defined.BadRow line) = inr refl
two_at_most (defined.BadProof line) = inr refl
two_at_most (defined.BadOmission line) = inr refl
two_at_most (defined.Uncovered tuple) = inr refl

module _ (args : Check) (held : HeldFiles) where
  -- the line of the verdict was printed
  pub printed : (before after : SinkSeen) (given : Verdict) → Answers args held (Ok given) → IsPrinted (answer_text given) before after → Ends args held before after (Ok given)
  printed before after given (due, called, is) line =
      (due, called, is, subst (λ text. IsPrinted text before after) (ap answer_text is ∙ text_told due) line)

  -- the headline
  pub certified_end : (before after : SinkSeen) (status : ℕ) (end : Result Verdict Failure) → status ≡ end_status end → status ≡ 0 → Ends args held before after end
      → HasReadings args IsCertified held
  certified_end before after status (Ok given) is zero (due, (inputs, read, judged), same, line) = (
    inputs,
    read,
    record {
      model = judged.model;
      spelled = judged.spelled;
      within = judged.within;
      report = judged.report;
      reported = judged.reported;
      holds =
          let accepted = accepted_zero due (sym (status_told due) ∙ ap answer_status (sym same) ∙ sym is ∙ zero) in
          certified judged.model judged.report.rows inputs.proof (accepted.0, accepted.1, judged.holds ∙ accepted.2);
    },
  )
  certified_end before after status (Err failure) is zero ends = elim (cause_known failure.cause) [
    | inl two ↦ absurd (omega (arith, is, zero, two))
    | inr three ↦ absurd (omega (arith, is, zero, three))
  ]

  -- the whole
  pub checks_as : (before after : Moment) (status : ℕ) (end : Result Verdict Failure) → status ≡ end_status end → Ends args held before.out after.out end
      → ChecksAs (Due args held) before after status
  checks_as before after status (Ok given) is (due, called, same, line) =
      let told : status ≡ verdict_status due = is ∙ ap answer_status same ∙ status_told due in
      record {
        told = λ known. (due, called, told, line);
        refused = λ two. elim (two_at_most due) [
          | inl zero ↦ absurd (omega (arith, told, two, zero))
          | inr one ↦ absurd (omega (arith, told, two, one))
        ];
        verdict_comes = λ other due'. inl (told ∙ ap verdict_status (one_verdict args held due other called due'));
        refusal_comes = λ cause refusal. absurd (not_both args held due cause called refusal);
      }
  checks_as before after status (Err failure) is (inl three) = record {
    told = λ known. elim known [
      | inl zero ↦ absurd (omega (arith, is, three, zero))
      | inr one ↦ absurd (omega (arith, is, three, one))
    ];
    refused = λ two. absurd (omega (arith, is, three, two));
    verdict_comes = λ other called. inr (is ∙ three);
    refusal_comes = λ cause refusal. inr (is ∙ three);
  }
  checks_as before after status (Err failure) is (inr refusal) = record {
    told = λ known. absurd (elim known [
      | inl zero ↦ elim (cause_known failure.cause) [
        | inl two ↦ omega (arith, is, two, zero)
        | inr three ↦ omega (arith, is, three, zero)
      ]
      | inr one ↦ elim (cause_known failure.cause) [
        | inl two ↦ omega (arith, is, two, one)
        | inr three ↦ omega (arith, is, three, one)
      ]
    ]);
    refused = λ two. (failure.cause, refusal);
    verdict_comes = λ other called. absurd (not_both args held other failure.cause called refusal);
    refusal_comes = λ cause other. inl (is ∙ one_status args held failure.cause cause refusal other);
  }
